-- The messages kept for retransmission.
use Rattle.std.specs.Prelude.{ℕ, cond, List, [], ◌∷◌, ◌++◌, length, is_some, ◌==◌}
use Rattle.fifo.specs.Bounded.{items}
use Rattle.fifo.specs.Lists.{rest, lookup, without}
use Rattle.messages.specs.declared.message.Message.{Message}
use Rattle.retransmission.specs.declared.kept.RetransmissionQueue.{RetransmissionQueue}
use Rattle.messages.specs.Messages.{number_of}

-- the kept messages of one subscription, oldest first
abbrev pub kept_in : RetransmissionQueue → List Message
kept_in q = items q.messages

-- an earlier message of the number goes, or else the oldest of eight
abbrev pub room_for : ℕ → List Message → List Message
room_for n ms = cond (is_some (lookup number_of n ms)) (without number_of n ms) (cond (length ms == 8) (rest ms) ms)

-- one more message is kept
abbrev pub keeping : Message → List Message → List Message
keeping m ms = room_for m.number ms ++ m ∷ []
