use Rattle.std.proofs.Common.{◌≡◌, map, take}
use Rattle.numbers.specs.Items.{items}
use Rattle.messages.specs.Messages.{number_of}
use Rattle.retransmission.proofs.kept.RetransmissionQueue.numbers.Given as goal

-- the numbers so far
abbrev pub invariant-loop-message : goal.invariant-loop-message
invariant-loop-message l = items l.numbers ≡ map number_of (take l.message-index l.message-items)
