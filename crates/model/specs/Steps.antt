-- What a call gives.
use Rattle.std.specs.Prelude.{ℕ, List, [], length, Some, None, Ok, Err, Option, Result}
use Rattle.values.specs.declared.value.Sample.{Sample}
use Rattle.values.specs.declared.notification.Notification.{Notification}
use Rattle.subscriptions.specs.declared.figures.Figures.{Figures}
use Rattle.items.specs.Item.{Item}
use Rattle.items.specs.declared.fault.ItemFault.{ItemFault}
use Rattle.items.specs.declared.fault.ItemFault.TheVariants.{MonitoredItemIdInvalid}
use Rattle.messages.specs.declared.response.Response.{Response}
use Rattle.answers.specs.declared.fault.ServiceFault.{ServiceFault}
use Rattle.answers.specs.declared.fault.ServiceFault.TheVariants as fault
use Rattle.answers.specs.declared.acknowledgement.AcknowledgementResult.{AcknowledgementResult}
use Rattle.model.specs.State.{State}

-- what happens in a step and no host sees: a subscription joined the late list; an item was started (created, modified or
-- enabled), was sampled, had a sample sent in a notification
pub data Event : Type 0 where
  Joined : ℕ → Event
  Started : ℕ → Event
  Sampled : ℕ → Sample → Event
  Sent : ℕ → Notification → Event

-- the next state, what the call returns, the responses and the results of acknowledgements that it writes, and its events
pub record Step (X : Type 0) : Type 0 where
  pub state : State
  pub answer : Result X ServiceFault
  pub responses : List Response
  pub results : List AcknowledgementResult
  pub events : List Event

-- a refused call changes nothing
abbrev pub refused : {X : Type 0} → State → ServiceFault → Step X
refused s e = record { state = s; answer = Err e; responses = []; results = []; events = [] }

-- an accepted call without responses
abbrev pub answers : {X : Type 0} → State → X → List Event → Step X
answers s x events = record { state = s; answer = Ok x; responses = []; results = []; events = events }

-- an accepted call that returns the number of its responses
abbrev pub sends : State → List Response → List Event → Step ℕ
sends s responses events = record { state = s; answer = Ok (length responses); responses = responses; results = []; events = events }

-- refused where there is no live subscription
abbrev pub for_live : {X : Type 0} → Option Figures → State → ℕ → (Figures → Step X) → Step X
for_live None s id step = refused s (fault.SubscriptionIdInvalid id)
for_live (Some f) s id step = step f

-- refused where there is no such item
abbrev pub for_item : {X : Type 0} → Option Item → State → ℕ → (Item → Step X) → Step X
for_item None s id step = refused s (fault.Item (MonitoredItemIdInvalid id))
for_item (Some x) s id step = step x

-- refused where the check of an item failed
abbrev pub for_checked : {X Y : Type 0} → Result Y ItemFault → State → (Y → Step X) → Step X
for_checked (Err e) s step = refused s (fault.Item e)
for_checked (Ok y) s step = step y
