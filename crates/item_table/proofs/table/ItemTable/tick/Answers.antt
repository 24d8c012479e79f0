use Rattle.std.proofs.Common.{◌≡◌, map, ap, ◌∙◌, rules}
use Rattle.fifo.specs.Bounded.{items}
use Rattle.items.specs.Item.{item_of, ticked}
use Rattle.items.specs.Keys.{id_of}
use Rattle.item_table.specs.Rising.{rising}
use Rattle.item_table.specs.Table.{items_of}
use Rattle.item_table.proofs.Listed.{each_is}
use Rattle.item_table.proofs.Orders.{rising_map, ticked_id}
use Rattle.item_table.proofs.table.ItemTable.tick.Goals as goal

pub invariant_of-self : goal.invariant_of-self
invariant_of-self g c =
    let t = c.args.self.now in
    let stands = g.S.Source.stands c.args.source.now in
    let after : map item_of (items c.change_each.new.self) ≡ map (ticked stands) (items_of t) = search (rules, each_is) in
    record { ordered = ap rising after ∙ rising_map id_of (ticked stands) (ticked_id stands) 0 (items_of t) ∙ t.ordered }

pub returns : goal.returns
returns g c = search (rules, each_is)
