use Rattle.std.proofs.Common.{rules, tests, eqb, ◌∙◌}
use Rattle.std.proofs.lemmas.Iterator.{YieldsList-from_slice}
use Rattle.std.proofs.lemmas.Iterator.Search.{position_from_yields_List}
use Rattle.fifo.proofs.Slots.{position_is}
use Rattle.fifo.proofs.bounded.BoundedList.find.Goals as goal

pub returns-clause-value : goal.returns-clause-value
returns-clause-value g c =
    position_from_yields_List (λ x. eqb (g.T.Keyed.tag x) c.args.key) _ _ _ c.position.ensures.ran
    (YieldsList-from_slice _ (c.iter.ensures.rest ∙ c.as_slice.ensures.value)) (λ x b q k. search (rules, tests))
    ∙ position_is g.T.Keyed.tag c.args.key _
