use Rattle.std.proofs.Common.{rules}
use Rattle.fifo.proofs.Slots.{kept_is}
use Rattle.fifo.proofs.bounded.BoundedList.keep_last.Goals as goal

pub returns : goal.returns
returns g c = search (rules, kept_is)
