-- The calls on subscriptions, each as a step.
use Rattle.std.specs.Prelude.{ℕ, ◌+◌, Bool, true, false, cond, [], ◌∷◌, ◌++◌, map, length, ◌==◌, nat_lt}
use Rattle.fifo.specs.Lists.{none, replaced, without}
use Rattle.subscriptions.specs.declared.figures.Figures.{Figures}
use Rattle.subscriptions.specs.declared.parameters.SubscriptionParameters.{SubscriptionParameters}
use Rattle.subscriptions.specs.declared.parameters.RevisedSubscription.{RevisedSubscription}
use Rattle.subscriptions.specs.Keys.{id_of}
use Rattle.subscriptions.specs.Changes.{created, modified, publishing}
use Rattle.subscriptions.specs.Revision.{revision, answer_of}
use Rattle.item_table.specs.Table.{others}
use Rattle.retransmission.specs.Rows.{opening, subscription_of}
use Rattle.messages.specs.declared.response.ResponseKind.TheVariants.{NoSubscription}
use Rattle.messages.specs.Responses.{refusing}
use Rattle.answers.specs.declared.fault.ServiceFault.TheVariants.{ListTooShort, TooManySubscriptions, IdsUsedUp}
use Rattle.model.specs.declared.revised.CreatedSubscription.{CreatedSubscription}
use Rattle.model.specs.State.{State, live_in, with_subscriptions, with_requests}
use Rattle.model.specs.Steps.{Step, refused, answers, sends, for_live}

-- a new subscription takes the next id and a slot; nothing of it is kept yet
abbrev pub creates : State → Figures → Step CreatedSubscription
creates s f =
    answers
    (record { next = s.next + 1; subscriptions = s.subscriptions ++ f ∷ []; items = s.items; kept = opening f.id s.kept; requests = s.requests; late = s.late })
    (record { id = f.id; revised = answer_of f.revised })
    []

abbrev pub create_subscription : State → SubscriptionParameters → Bool → Step CreatedSubscription
create_subscription s p enabled =
    cond (length s.subscriptions == 4) (refused s TooManySubscriptions)
    (cond (nat_lt 4294967295 s.next) (refused s IdsUsedUp)
    (creates s (created s.next (revision p) enabled)))

abbrev pub modify_subscription : State → ℕ → SubscriptionParameters → Step RevisedSubscription
modify_subscription s id p =
    for_live (live_in id s.subscriptions) s id
    (λ f. answers (with_subscriptions s (replaced id_of (modified (revision p) f) s.subscriptions)) (answer_of (revision p)) [])

abbrev pub set_publishing_mode : State → ℕ → Bool → Step (Unit {0})
set_publishing_mode s id enabled =
    for_live (live_in id s.subscriptions) s id
    (λ f. answers (with_subscriptions s (replaced id_of (publishing enabled f) s.subscriptions)) tt [])

-- the slot, the items, the kept messages and the place on the late list go
abbrev pub dropped : State → ℕ → State
dropped s id = record { next = s.next; subscriptions = without id_of id s.subscriptions; items = others id s.items; kept = without subscription_of id s.kept; requests = s.requests; late = without (λ n. n) id s.late }

-- where no slot is occupied, each queued request is answered, oldest first
abbrev pub emptied : Bool → State → Step ℕ
emptied true s = sends (with_requests s []) (map (refusing NoSubscription) s.requests) []
emptied false s = sends s [] []

-- `room` is how many places the response list has
abbrev pub delete_subscription : State → ℕ → ℕ → Step ℕ
delete_subscription s id room =
    cond (nat_lt room 8) (refused s ListTooShort)
    (for_live (live_in id s.subscriptions) s id (λ f. emptied (none (without id_of id s.subscriptions)) (dropped s id)))
