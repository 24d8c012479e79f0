use Rattle.std.proofs.Common.{ap, ◌∙◌}
use Rattle.items.specs.Item.{item_of}
use Rattle.items.specs.Keys.{id_of}
use Rattle.item_table.specs.Rising.{rising}
use Rattle.item_table.specs.Table.{items_of}
use Rattle.item_table.proofs.Orders.{rising_replaced}
use Rattle.item_table.proofs.table.ItemTable.replace.Goals as goal

pub invariant_of-self : goal.invariant_of-self
invariant_of-self c =
    let t = c.args.self.now in record { ordered = ap rising c.replace.ensures ∙ rising_replaced id_of 0 (item_of c.args.item) (items_of t) ∙ t.ordered }
