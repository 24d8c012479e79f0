use Rattle.std.proofs.Common.{ap, ◌∙◌}
use Rattle.items.specs.Keys.{id_of}
use Rattle.item_table.specs.Rising.{rising}
use Rattle.item_table.specs.Table.{items_of}
use Rattle.item_table.proofs.Orders.{rising_without}
use Rattle.item_table.proofs.table.ItemTable.remove.Goals as goal

pub invariant_of-self : goal.invariant_of-self
invariant_of-self c = let t = c.args.self.now in record { ordered = ap rising c.remove.ensures ∙ rising_without id_of 0 c.args.id (items_of t) t.ordered }
