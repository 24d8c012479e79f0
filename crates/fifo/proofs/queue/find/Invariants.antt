use Rattle.std.proofs.Common.{◌≡◌, take, None}
use Rattle.fifo.specs.Lists.{position}
use Rattle.fifo.proofs.queue.find.Given as goal

-- nothing found so far
abbrev pub invariant-loop-i : goal.invariant-loop-i
invariant-loop-i g l = position g.T.Keyed.tag l.key (take l.i l.slots) ≡ None
