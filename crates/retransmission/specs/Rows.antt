-- The kept messages of every subscription, a row for each.
use Rattle.std.specs.Prelude.{ℕ, cond, List, [], ◌∷◌, ◌++◌, map, length, Some, None, Option, nat_lt}
use Rattle.fifo.specs.Bounded.{items}
use Rattle.fifo.specs.Lists.{lookup, replaced, without}
use Rattle.messages.specs.declared.message.Message.{Message}
use Rattle.retransmission.specs.declared.kept.Retransmission.{Retransmission}
use Rattle.retransmission.specs.declared.kept.RetransmissionTable.{RetransmissionTable}
use Rattle.messages.specs.Messages.{number_of}
use Rattle.retransmission.specs.Kept.{kept_in, keeping}

-- a subscription and the messages kept of it, oldest first
pub record Kept : Type 0 where
  pub subscription : ℕ
  pub messages : List Message

abbrev pub row_with : ℕ → List Message → Kept
row_with id ms = record { subscription = id; messages = ms }

abbrev pub shown : Retransmission → Kept
shown r = row_with r.subscription (kept_in r.queue)

abbrev pub subscription_of : Kept → ℕ
subscription_of row = row.subscription

-- the rows in use, in the order of opening
abbrev pub rows : RetransmissionTable → List Kept
rows t = map shown (items t.rows)

abbrev pub messages_of : Option Kept → List Message
messages_of None = []
messages_of (Some row) = row.messages

-- the messages kept of a subscription, oldest first; none without a row
abbrev pub kept_of : ℕ → List Kept → List Message
kept_of id rows = messages_of (lookup subscription_of id rows)

-- a row for a new subscription, where fewer than four have one
abbrev pub opening : ℕ → List Kept → List Kept
opening id rows = cond (nat_lt (length rows) 4) (rows ++ row_with id [] ∷ []) rows

-- one more message of a subscription is kept
abbrev pub keeping_for : ℕ → Message → List Kept → List Kept
keeping_for id m rows = replaced subscription_of (row_with id (keeping m (kept_of id rows))) rows

-- the message of a subscription with a number is dropped
abbrev pub acknowledging : ℕ → ℕ → List Kept → List Kept
acknowledging id n rows = replaced subscription_of (row_with id (without number_of n (kept_of id rows))) rows
