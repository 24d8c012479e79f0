use Rattle.std.proofs.Common.{not, ap, ◌∙◌, rules, tests}
use Rattle.items.specs.Keys.{id_of}
use Rattle.item_table.specs.Rising.{rising}
use Rattle.item_table.specs.Table.{items_of, belongs}
use Rattle.item_table.proofs.Listed.{kept_is}
use Rattle.item_table.proofs.Orders.{rising_kept}
use Rattle.item_table.proofs.table.ItemTable.remove_all.Goals as goal

pub invariant_of-self : goal.invariant_of-self
invariant_of-self c =
    let t = c.args.self.now in
    record {
      ordered =
          ap rising (kept_is _ _ (λ x. not (belongs c.args.subscription x)) (λ m b k. search (rules, tests)) _ _ c.retain.ensures)
          ∙ rising_kept id_of (λ x. not (belongs c.args.subscription x)) 0 (items_of t) t.ordered;
    }

pub returns : goal.returns
returns c = kept_is _ _ (λ x. not (belongs c.args.subscription x)) (λ m b k. search (rules, tests)) _ _ c.retain.ensures
