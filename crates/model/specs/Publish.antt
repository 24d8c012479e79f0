-- Publish, with its acknowledgements.
use Rattle.std.specs.Prelude.{ℕ, Bool, true, false, cond, List, [], ◌∷◌, ◌++◌, length, is_some, Some, None, Option, ◌==◌, nat_lt}
use Rattle.fifo.specs.Lists.{none, first, rest, lookup, replaced, without}
use Rattle.subscriptions.specs.declared.figures.Figures.{Figures}
use Rattle.subscriptions.specs.Facts.{live}
use Rattle.subscriptions.specs.Keys.{id_of}
use Rattle.subscriptions.specs.Changes.{named, joined}
use Rattle.messages.specs.declared.response.ResponseKind.TheVariants.{TooManyRequests, NoSubscription}
use Rattle.messages.specs.Messages.{number_of}
use Rattle.messages.specs.Responses.{refusing, changing_status}
use Rattle.retransmission.specs.Rows.{Kept, kept_of, acknowledging}
use Rattle.answers.specs.declared.fault.ServiceFault.TheVariants.{ListTooShort, TooManyOperations}
use Rattle.answers.specs.declared.acknowledgement.Acknowledgement.{Acknowledgement}
use Rattle.answers.specs.declared.acknowledgement.AcknowledgementResult.{AcknowledgementResult}
use Rattle.answers.specs.declared.acknowledgement.AcknowledgementResult.TheVariants.{Good, SubscriptionIdInvalid, SequenceNumberUnknown}
use Rattle.model.specs.State.{State, live_in, with_requests}
use Rattle.model.specs.Steps.{Joined, Step, refused, sends}
use Rattle.model.specs.Messages.{Sending, message}

-- the subscriptions and kept messages after an acknowledgement, and what it came to
pub record Acknowledged : Type 0 where
  pub subscriptions : List Figures
  pub kept : List Kept
  pub result : AcknowledgementResult

-- the subscription's idle count is 0, and a kept message of the number is dropped
abbrev pub acknowledged_by : Option Figures → Acknowledgement → List Figures → List Kept → Acknowledged
acknowledged_by None a fs kept = record { subscriptions = fs; kept = kept; result = SubscriptionIdInvalid }
acknowledged_by (Some f) a fs kept =
    record {
      subscriptions = replaced id_of (named f) fs;
      kept = acknowledging a.subscription a.number kept;
      result = cond (is_some (lookup number_of a.number (kept_of a.subscription kept))) Good SequenceNumberUnknown;
    }

abbrev pub acknowledged : Acknowledgement → List Figures → List Kept → Acknowledged
acknowledged a fs kept = acknowledged_by (live_in a.subscription fs) a fs kept

-- the same after several, in order
pub record AllAcknowledged : Type 0 where
  pub subscriptions : List Figures
  pub kept : List Kept
  pub results : List AcknowledgementResult

abbrev pub with_result : AcknowledgementResult → AllAcknowledged → AllAcknowledged
with_result r t = record { subscriptions = t.subscriptions; kept = t.kept; results = r ∷ t.results }

abbrev pub all_acknowledged : List Acknowledgement → List Figures → List Kept → AllAcknowledged
all_acknowledged [] fs kept = record { subscriptions = fs; kept = kept; results = [] }
all_acknowledged (a ∷ acks) fs kept =
    with_result (acknowledged a fs kept).result (all_acknowledged acks (acknowledged a fs kept).subscriptions (acknowledged a fs kept).kept)

-- a late subscription's message: with more it joins the end of the late list again
abbrev pub answers_late : Bool → State → Sending → Step ℕ
answers_late true s m =
    sends
    (record { next = s.next; subscriptions = replaced id_of (joined m.figures) s.subscriptions; items = m.items; kept = m.kept; requests = s.requests; late = rest s.late ++ m.figures.id ∷ [] })
    (m.response ∷ [])
    (m.events ++ Joined m.figures.id ∷ [])
answers_late false s m =
    sends
    (record { next = s.next; subscriptions = replaced id_of m.figures s.subscriptions; items = m.items; kept = m.kept; requests = s.requests; late = rest s.late })
    (m.response ∷ [])
    m.events

-- an ended subscription's status change shows its next number and frees its slot
abbrev pub answers_ended : State → ℕ → Figures → Step ℕ
answers_ended s handle f =
    sends
    (record { next = s.next; subscriptions = without id_of f.id s.subscriptions; items = s.items; kept = s.kept; requests = s.requests; late = rest s.late })
    (changing_status handle f.id f.number ∷ [])
    []

abbrev pub answers_by : Bool → State → ℕ → Figures → Step ℕ
answers_by true s handle f = answers_late (message handle f s.items s.kept).response.more s (message handle f s.items s.kept)
answers_by false s handle f = answers_ended s handle f

-- the first of the late list answers; every id there has a slot, so the first case never comes
abbrev pub answers_first : Option Figures → State → ℕ → Step ℕ
answers_first None s handle = sends s [] []
answers_first (Some f) s handle = answers_by (live f.phase) s handle f

-- the request is queued last; where eight are queued, the oldest is answered first
abbrev pub queues_after : Option ℕ → State → ℕ → Step ℕ
queues_after None s handle = sends (with_requests s (s.requests ++ handle ∷ [])) [] []
queues_after (Some oldest) s handle = sends (with_requests s (rest s.requests ++ handle ∷ [])) (refusing TooManyRequests oldest ∷ []) []

abbrev pub queues : State → ℕ → Step ℕ
queues s handle = cond (length s.requests == 8) (queues_after (first s.requests) s handle) (queues_after None s handle)

abbrev pub by_late : Option ℕ → State → ℕ → Step ℕ
by_late None s handle = queues s handle
by_late (Some id) s handle = answers_first (lookup id_of id s.subscriptions) s handle

-- a request, with the state as it is after the acknowledgements
abbrev pub requested : State → ℕ → Step ℕ
requested s handle = cond (none s.subscriptions) (sends s (refusing NoSubscription handle ∷ []) []) (by_late (first s.late) s handle)

abbrev pub after_acknowledging : State → AllAcknowledged → State
after_acknowledging s t = record { next = s.next; subscriptions = t.subscriptions; items = s.items; kept = t.kept; requests = s.requests; late = s.late }

abbrev pub with_results : List AcknowledgementResult → Step ℕ → Step ℕ
with_results results t = record { state = t.state; answer = t.answer; responses = t.responses; results = results; events = t.events }

abbrev pub accepts : State → ℕ → AllAcknowledged → Step ℕ
accepts s handle t = with_results t.results (requested (after_acknowledging s t) handle)

-- `room` is how many places the response list has, and `places` the list of results
abbrev pub publish : State → ℕ → List Acknowledgement → ℕ → ℕ → Step ℕ
publish s handle acks room places =
    cond (nat_lt room 8) (refused s ListTooShort)
    (cond (nat_lt places (length acks)) (refused s ListTooShort)
    (cond (nat_lt 8 (length acks)) (refused s TooManyOperations)
    (accepts s handle (all_acknowledged acks s.subscriptions s.kept))))
