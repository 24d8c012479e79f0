-- Runs of calls.
use Rattle.std.specs.Prelude.{ℕ, Bool, true, false, cond, ◌||◌, List, [], ◌∷◌, ◌++◌, Ok, Err, Result, ◌==◌, Option}
use Rattle.sources.specs.declared.source.Standing.{Standing}
use Rattle.messages.specs.declared.response.Response.{Response}
use Rattle.answers.specs.declared.fault.ServiceFault.{ServiceFault}
use Rattle.answers.specs.declared.acknowledgement.Acknowledgement.{Acknowledgement}
use Rattle.subscriptions.specs.declared.parameters.SubscriptionParameters.{SubscriptionParameters}
use Rattle.model.specs.declared.parameters.MonitoringParameters.{MonitoringParameters}
use Rattle.model.specs.State.{State}
use Rattle.model.specs.Steps.{Event, Step}
use Rattle.model.specs.Subscribing.{create_subscription, modify_subscription, set_publishing_mode, delete_subscription}
use Rattle.model.specs.Monitoring.{create_item, modify_item, delete_item, set_monitoring_mode}
use Rattle.model.specs.Publish.{publish}
use Rattle.model.specs.Republish.{republish}
use Rattle.model.specs.Tick.{tick}

-- a call with its arguments; the last numbers of DeleteSubscription and Tick are how many places the response list has, those
-- of Publish how many the response list and the list of results have
pub data Call : Type 0 where
  CreateSubscription : SubscriptionParameters → Bool → Call
  ModifySubscription : ℕ → SubscriptionParameters → Call
  SetPublishingMode : ℕ → Bool → Call
  DeleteSubscription : ℕ → ℕ → Call
  CreateItem : ℕ → ℕ → ℕ → MonitoringParameters → Call
  ModifyItem : ℕ → ℕ → MonitoringParameters → Call
  DeleteItem : ℕ → ℕ → Call
  SetMonitoringMode : ℕ → ℕ → ℕ → Call
  Publish : ℕ → List Acknowledgement → ℕ → ℕ → Call
  Republish : ℕ → ℕ → Call
  Tick : ℕ → Call

-- a call, and what the source stands at when it is made
pub record Scene : Type 0 where
  pub stands : ℕ → Option Standing
  pub call : Call

-- what a call did: the next state, whether it was accepted, its responses and its events
pub record Done : Type 0 where
  pub state : State
  pub accepted : Bool
  pub responses : List Response
  pub events : List Event

abbrev pub accepted_by : {X : Type 0} → Result X ServiceFault → Bool
accepted_by (Ok x) = true
accepted_by (Err e) = false

abbrev pub done : {X : Type 0} → Step X → Done
done t = record { state = t.state; accepted = accepted_by t.answer; responses = t.responses; events = t.events }

abbrev pub done_by : (ℕ → Option Standing) → State → Call → Done
done_by stands s (CreateSubscription p enabled) = done (create_subscription s p enabled)
done_by stands s (ModifySubscription id p) = done (modify_subscription s id p)
done_by stands s (SetPublishingMode id enabled) = done (set_publishing_mode s id enabled)
done_by stands s (DeleteSubscription id room) = done (delete_subscription s id room)
done_by stands s (CreateItem id node mode p) = done (create_item stands s id node mode p)
done_by stands s (ModifyItem id item p) = done (modify_item s id item p)
done_by stands s (DeleteItem id item) = done (delete_item s id item)
done_by stands s (SetMonitoringMode id item mode) = done (set_monitoring_mode s id item mode)
done_by stands s (Publish handle acks room places) = done (publish s handle acks room places)
done_by stands s (Republish id n) = done (republish s id n)
done_by stands s (Tick room) = done (tick stands s room)

abbrev pub called : State → Scene → Done
called s c = done_by c.stands s c.call

-- the state after all calls
abbrev pub final : State → List Scene → State
final s [] = s
final s (c ∷ cs) = final (called s c).state cs

-- the responses of all calls, in order
abbrev pub responses : State → List Scene → List Response
responses s [] = []
responses s (c ∷ cs) = (called s c).responses ++ responses (called s c).state cs

-- the events of all calls, in order
abbrev pub events : State → List Scene → List Event
events s [] = []
events s (c ∷ cs) = (called s c).events ++ events (called s c).state cs

-- the handle of a Publish call
abbrev pub handle_if : Bool → Call → List ℕ
handle_if true (Publish handle acks room places) = handle ∷ []
handle_if true (CreateSubscription p enabled) = []
handle_if true (ModifySubscription id p) = []
handle_if true (SetPublishingMode id enabled) = []
handle_if true (DeleteSubscription id room) = []
handle_if true (CreateItem id node mode p) = []
handle_if true (ModifyItem id item p) = []
handle_if true (DeleteItem id item) = []
handle_if true (SetMonitoringMode id item mode) = []
handle_if true (Republish id n) = []
handle_if true (Tick room) = []
handle_if false c = []

-- the handle of an accepted Publish call
abbrev pub asked_by : State → Scene → List ℕ
asked_by s c = handle_if (called s c).accepted c.call

-- the handles of the accepted Publish calls, in order
abbrev pub asked : State → List Scene → List ℕ
asked s [] = []
asked s (c ∷ cs) = asked_by s c ++ asked (called s c).state cs

-- whether a response shows the id
abbrev pub shows : ℕ → List Response → Bool
shows id [] = false
shows id (r ∷ rs) = cond (r.subscription == id) true (shows id rs)

-- whether an accepted Publish call among them has a response of its own that shows the id
abbrev pub answers_to : ℕ → List ℕ → List Response → Bool
answers_to id [] rs = false
answers_to id (handle ∷ handles) rs = shows id rs

abbrev pub answered : ℕ → State → List Scene → Bool
answered id s [] = false
answered id s (c ∷ cs) = answers_to id (asked_by s c) (called s c).responses || answered id (called s c).state cs

-- whether a call is an accepted deletion of the subscription
abbrev pub deletes : ℕ → Bool → Call → Bool
deletes id true (DeleteSubscription id' room) = id' == id
deletes id true (CreateSubscription p enabled) = false
deletes id true (ModifySubscription id' p) = false
deletes id true (SetPublishingMode id' enabled) = false
deletes id true (CreateItem id' node mode p) = false
deletes id true (ModifyItem id' item p) = false
deletes id true (DeleteItem id' item) = false
deletes id true (SetMonitoringMode id' item mode) = false
deletes id true (Publish handle acks room places) = false
deletes id true (Republish id' n) = false
deletes id true (Tick room) = false
deletes id false c = false

abbrev pub deleted : ℕ → State → List Scene → Bool
deleted id s [] = false
deleted id s (c ∷ cs) = deletes id (called s c).accepted c.call || deleted id (called s c).state cs
