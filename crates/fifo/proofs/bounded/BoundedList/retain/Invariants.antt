use Rattle.std.proofs.Common.{◌≡◌, ◌≤◌, take, drop}
use Rattle.fifo.specs.Changes.{Retained}
use Rattle.fifo.proofs.bounded.BoundedList.retain.Given as goal

-- of the first i records, those that pass stand in the first places; the others are as they were
abbrev pub invariant-loop-i : goal.invariant-loop-i
invariant-loop-i g l =
    Retained g.F.Fn l.keep (take l.i l.initial.self.places) (take l.kept l.self.places)
    × (drop l.i l.self.places ≡ drop l.i l.initial.self.places)
    × (l.kept ≤ l.i)
