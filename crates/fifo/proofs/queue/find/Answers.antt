use Rattle.std.proofs.Common.{rules}
use Rattle.fifo.proofs.Slots.{found, passed}
use Rattle.fifo.proofs.queue.find.Goals as goal

pub returns-then-key : goal.returns-then-key
returns-then-key g c = search (rules, found)

pub loop-i-preserved : goal.loop-i-preserved
loop-i-preserved g c = search (rules, passed)
