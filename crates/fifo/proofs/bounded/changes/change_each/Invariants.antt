use Rattle.std.proofs.Common.{◌≡◌, take, drop}
use Rattle.fifo.specs.Changes.{EachChanged}
use Rattle.fifo.proofs.bounded.changes.change_each.Given as goal

-- the first records are changed, the others as they were
abbrev pub invariant-loop-place : goal.invariant-loop-place
invariant-loop-place g l =
    EachChanged g.F.Fn l.f (take l.place-index l.initial.place-items) (take l.place-index l.place-items)
    × (drop l.place-index l.place-items ≡ drop l.place-index l.initial.place-items)
