use Rattle.std.proofs.Common.{rules}
use Rattle.std.proofs.Math.Seq.{take-set-lt}
use Rattle.fifo.proofs.bounded.BoundedList.set.Goals as goal

pub returns : goal.returns
returns g c = search (rules, take-set-lt)
