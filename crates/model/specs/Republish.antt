-- Republish: a kept message once more.
use Rattle.std.specs.Prelude.{ℕ, [], Some, None, Ok, Err, Option, Result}
use Rattle.fifo.specs.Lists.{lookup, replaced}
use Rattle.subscriptions.specs.Keys.{id_of}
use Rattle.subscriptions.specs.Changes.{named}
use Rattle.messages.specs.declared.message.Message.{Message}
use Rattle.messages.specs.Messages.{number_of}
use Rattle.retransmission.specs.Rows.{kept_of}
use Rattle.answers.specs.declared.fault.ServiceFault.{ServiceFault}
use Rattle.answers.specs.declared.fault.ServiceFault.TheVariants.{MessageNotAvailable}
use Rattle.model.specs.State.{State, live_in, with_subscriptions}
use Rattle.model.specs.Steps.{Step, refused, answers, for_live}

-- refused where no kept message has the number
abbrev pub for_message : {X : Type 0} → Option Message → State → ℕ → (Message → Step X) → Step X
for_message None s n step = refused s (MessageNotAvailable n)
for_message (Some m) s n step = step m

-- the message as it was sent; the subscription's idle count is 0, and nothing else changes
abbrev pub republish : State → ℕ → ℕ → Step Message
republish s id n =
    for_live (live_in id s.subscriptions) s id (λ f.
    for_message (lookup number_of n (kept_of id s.kept)) s n (λ m.
    answers (with_subscriptions s (replaced id_of (named f) s.subscriptions)) m []))

-- what the call returns, and what the caller's record holds then: a refused call leaves it as it was
abbrev pub accepted : Result Message ServiceFault → Result (Unit {0}) ServiceFault
accepted (Ok m) = Ok tt
accepted (Err e) = Err e

abbrev pub filled : Result Message ServiceFault → Message → Message
filled (Ok m) old = m
filled (Err e) old = old
