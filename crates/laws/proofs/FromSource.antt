-- A sampled event carries what the source shows for the item's node.
use Rattle.std.proofs.Common.{◌≡◌, ℕ, Bool, true, false, cond, List, [], ◌∷◌, ◌++◌, map, Some, None, Option, sym, refl, inl, inr}
use Rattle.std.specs.List.{AllByRecursion}
use Rattle.std.proofs.ByRecursion.{All-append}
use Rattle.std.proofs.lemmas.Bool.{true≢false}
use Rattle.fifo.specs.Lists.{none, lookup, replaced}
use Rattle.values.specs.declared.value.Sample.{Sample}
use Rattle.sources.specs.declared.source.Standing.{Standing}
use Rattle.sources.specs.Standings.{sample_of}
use Rattle.subscriptions.specs.declared.figures.Figures.{Figures}
use Rattle.subscriptions.specs.declared.figures.Outcome.{Outcome}
use Rattle.subscriptions.specs.declared.figures.Outcome.TheVariants.{Rests, Sends, Joins, Ends}
use Rattle.subscriptions.specs.Facts.{live}
use Rattle.subscriptions.specs.Keys.{id_of}
use Rattle.subscriptions.specs.Changes.{messaged, named, runs, counted_down}
use Rattle.subscriptions.specs.Cycle.{cycle}
use Rattle.items.specs.declared.item.Mode.{Mode}
use Rattle.items.specs.declared.item.Mode.TheVariants.{Disabled, Sampling, Reporting}
use Rattle.items.specs.Item.{Item}
use Rattle.items.specs.Keys.{id_of as item_id}
use Rattle.item_table.specs.declared.served.Served.{Served}
use Rattle.item_table.specs.Turn.{any_waits}
use Rattle.messages.specs.declared.message.Message.{Message}
use Rattle.messages.specs.Messages.{number_of}
use Rattle.retransmission.specs.Rows.{Kept, kept_of}
use Rattle.answers.specs.declared.acknowledgement.Acknowledgement.{Acknowledgement}
use Rattle.subscriptions.specs.declared.parameters.SubscriptionParameters.{SubscriptionParameters}
use Rattle.subscriptions.specs.declared.parameters.RevisedSubscription.{RevisedSubscription}
use Rattle.model.specs.declared.revised.CreatedSubscription.{CreatedSubscription}
use Rattle.model.specs.declared.revised.RevisedItem.{RevisedItem}
use Rattle.model.specs.declared.revised.CreatedItem.{CreatedItem}
use Rattle.model.specs.declared.parameters.MonitoringParameters.{MonitoringParameters}
use Rattle.model.specs.State.{State, new_state, live_in, with_subscriptions}
use Rattle.model.specs.Steps.{Event, Joined, Started, Sampled, Sent, Step, answers, for_live}
use Rattle.model.specs.Subscribing.{create_subscription, modify_subscription, set_publishing_mode, delete_subscription}
use Rattle.model.specs.Monitoring.{create_item, modify_item, delete_item, starting, set_monitoring_mode}
use Rattle.model.specs.Publish.{publish}
use Rattle.model.specs.Republish.{for_message, republish}
use Rattle.model.specs.Messages.{Sending, taken, sent_event, by_taken, message}
use Rattle.model.specs.Tick.{Shared, Passed, samples, samplings, still_due, onward, messages, acts, asked, counts, passes_live, passes, passes_all, shared_of, sampled_state, passed, tick}
use Rattle.model.specs.Sound.{In}
use Rattle.soundness.proofs.Members.{in_cases}
use Rattle.soundness.proofs.Subs.{all_in}
use Rattle.soundness.proofs.Cases as cases
use Rattle.laws.specs.Runs.{Call, CreateSubscription, ModifySubscription, SetPublishingMode, DeleteSubscription, CreateItem, ModifyItem, DeleteItem, SetMonitoringMode, Publish, Republish, Tick, Scene, done_by, final}
use Rattle.laws.specs.Laws.{FromSource}

abbrev other : Event → Bool
other (Joined s) = true
other (Started x) = true
other (Sampled x v) = false
other (Sent x n) = true

-- no sampled event
abbrev Unsampled : List Event → Type 0
Unsampled es = AllByRecursion (λ e. other e ≡ true) es

none_sampled : (id : ℕ) (v : Sample) (es : List Event) → Unsampled es → In (Sampled id v) es → ⊥
none_sampled id v es a h = true≢false (sym (all_in (λ e. other e ≡ true) (Sampled id v) es a h))

joined_both : (es fs : List Event) → Unsampled es → Unsampled fs → Unsampled (es ++ fs)
joined_both es fs a b = All-append (λ e. other e ≡ true) es fs a b

sent_unsampled : (ws : List Served) → Unsampled (map sent_event ws)
sent_unsampled [] = tt
sent_unsampled (w ∷ ws) = (refl, sent_unsampled ws)

message_unsampled : (h : ℕ) (f : Figures) (xs : List Item) (kept : List Kept) → Unsampled (message h f xs kept).events
message_unsampled h f xs kept = at (none (taken f xs).sent)
  where
    at : (b : Bool) → Unsampled (by_taken b h (messaged f) (taken f xs) kept).events
    at true = tt
    at false = sent_unsampled (taken f xs).sent

messages_unsampled : (hs : List ℕ) (f : Figures) (xs : List Item) (kept : List Kept) (late : List ℕ) → Unsampled (messages hs f xs kept late).events
messages_unsampled [] f xs kept late = (refl, tt)
messages_unsampled (h ∷ hs) f xs kept late =
    let m = message h f xs kept in
    at (still_due m) m (message_unsampled h f xs kept) (messages hs m.figures m.items m.kept late) (messages_unsampled hs m.figures m.items m.kept late)
  where
    at : (b : Bool) (m : Sending) → Unsampled m.events → (p : Passed) → Unsampled p.events → Unsampled (onward b m hs late p).events
    at true m a p ih = joined_both m.events p.events a ih
    at false m a p ih = joined_both m.events [] a tt

passes_unsampled : (f : Figures) (q : Shared) → Unsampled (passes f q).events
passes_unsampled f q = at (live f.phase)
  where
    by : (o : Outcome) (g : Figures) → Unsampled (acts o g q).events
    by Rests g = tt
    by Sends g = messages_unsampled q.requests g q.items q.kept q.late
    by Joins g = (refl, tt)
    by Ends g = tt

    count : (b : Bool) → Unsampled (counts b f q).events
    count true = let g = counted_down f in let c = cycle (asked q) (any_waits g.id q.items) g in by c.outcome c.after
    count false = tt

    at : (b : Bool) → Unsampled (passes_live b f q).events
    at true = count (runs f)
    at false = tt

all_unsampled : (fs : List Figures) (q : Shared) → Unsampled (passes_all fs q).events
all_unsampled [] q = tt
all_unsampled (f ∷ fs) q = joined_both (passes f q).events (passes_all fs (passes f q).shared).events (passes_unsampled f q) (all_unsampled fs (passes f q).shared)

starting_unsampled : (a b : Mode) (id : ℕ) → Unsampled (starting a b id)
starting_unsampled Disabled Disabled id = tt
starting_unsampled Disabled Sampling id = (refl, tt)
starting_unsampled Disabled Reporting id = (refl, tt)
starting_unsampled Sampling m id = tt
starting_unsampled Reporting m id = tt

requesting_unsampled : (s : State) (h : ℕ) (t : Step ℕ) → cases.Requesting s h t → Unsampled t.events
requesting_unsampled s h t (cases.nobody e) = tt
requesting_unsampled s h t (cases.lost id l e) = tt
requesting_unsampled s h t (cases.answered id f l e v m) = message_unsampled h f s.items s.kept
requesting_unsampled s h t (cases.again id f l e v m) = let n = message h f s.items s.kept in joined_both n.events (Joined n.figures.id ∷ []) (message_unsampled h f s.items s.kept) (refl, tt)
requesting_unsampled s h t (cases.ended id f l e v) = tt
requesting_unsampled s h t (cases.queued n l r) = tt
requesting_unsampled s h t (cases.crowds oldest n l r e) = tt

-- an item of the list that was sampled so
abbrev SampledIn : (ℕ → Option Standing) → List Item → ℕ → Sample → Type 0
SampledIn stands xs id v = (x : Item) × In x xs × (item_id x ≡ id) × (v ≡ sample_of (stands x.identity.node))

samplings_in : (stands : ℕ → Option Standing) (xs : List Item) (id : ℕ) (v : Sample) → In (Sampled id v) (samplings stands xs) → SampledIn stands xs id v
samplings_in stands [] id v h = absurd h
samplings_in stands (x ∷ xs) id v h = at (samples x) h (λ i. more (samplings_in stands xs id v i))
  where
    more : SampledIn stands xs id v → SampledIn stands (x ∷ xs) id v
    more (y, i, e, q) = (y, inr i, e, q)

    at : (b : Bool) → In (Sampled id v) (cond b (Sampled (item_id x) (sample_of (stands x.identity.node)) ∷ samplings stands xs) (samplings stands xs)) →
        (In (Sampled id v) (samplings stands xs) → SampledIn stands (x ∷ xs) id v) → SampledIn stands (x ∷ xs) id v
    at true (inl e) ih = let k : item_id x ≡ id = cc in let w : sample_of (stands x.identity.node) ≡ v = cc in (x, inl refl, k, sym w)
    at true (inr h) ih = ih h
    at false h ih = ih h

-- the calls on subscriptions and items, and Publish
creates_unsampled : (s : State) (p : SubscriptionParameters) (enabled : Bool) (t : Step CreatedSubscription) → cases.CreatingSubscription s p enabled t → Unsampled t.events
creates_unsampled s p enabled t (cases.full e) = tt
creates_unsampled s p enabled t (cases.used_up e) = tt
creates_unsampled s p enabled t (cases.made e n) = tt

modifies_unsampled : (s : State) (id : ℕ) (p : SubscriptionParameters) (t : Step RevisedSubscription) → cases.ModifyingSubscription s id p t → Unsampled t.events
modifies_unsampled s id p t (cases.unknown e) = tt
modifies_unsampled s id p t (cases.modifies f e) = tt

enables_unsampled : (s : State) (id : ℕ) (enabled : Bool) (t : Step (Unit {0})) → cases.SettingPublishing s id enabled t → Unsampled t.events
enables_unsampled s id enabled t (cases.unknown e) = tt
enables_unsampled s id enabled t (cases.sets f e) = tt

deletes_unsampled : (s : State) (id room : ℕ) (t : Step ℕ) → cases.DeletingSubscription s id room t → Unsampled t.events
deletes_unsampled s id room t (cases.short e) = tt
deletes_unsampled s id room t (cases.unknown e) = tt
deletes_unsampled s id room t (cases.last f e n) = tt
deletes_unsampled s id room t (cases.one f e n) = tt

adds_unsampled : (stands : ℕ → Option Standing) (s : State) (id node mode : ℕ) (p : MonitoringParameters) (t : Step CreatedItem) → cases.CreatingItem stands s id node mode p t → Unsampled t.events
adds_unsampled stands s id node mode p t (cases.unknown e) = tt
adds_unsampled stands s id node mode p t (cases.full e) = tt
adds_unsampled stands s id node mode p t (cases.used_up e) = tt
adds_unsampled stands s id node mode p t (cases.no_node e) = tt
adds_unsampled stands s id node mode p t (cases.bad shown x e c) = tt
adds_unsampled stands s id node mode p t (cases.adds f shown checks e n l k c) = (refl, tt)

changes_unsampled : (s : State) (id item : ℕ) (p : MonitoringParameters) (t : Step RevisedItem) → cases.ModifyingItem s id item p t → Unsampled t.events
changes_unsampled s id item p t (cases.unknown e) = tt
changes_unsampled s id item p t (cases.no_item e) = tt
changes_unsampled s id item p t (cases.bad x y e c) = tt
changes_unsampled s id item p t (cases.modifies f x filter e i c) = (refl, tt)

removes_unsampled : (s : State) (id item : ℕ) (t : Step (Unit {0})) → cases.DeletingItem s id item t → Unsampled t.events
removes_unsampled s id item t (cases.unknown e) = tt
removes_unsampled s id item t (cases.no_item e) = tt
removes_unsampled s id item t (cases.deletes f x e i) = tt

modes_unsampled : (s : State) (id item mode : ℕ) (t : Step (Unit {0})) → cases.SettingMode s id item mode t → Unsampled t.events
modes_unsampled s id item mode t (cases.unknown e) = tt
modes_unsampled s id item mode t (cases.no_item e) = tt
modes_unsampled s id item mode t (cases.bad x c) = tt
modes_unsampled s id item mode t (cases.sets f x m e i c) = starting_unsampled x.mode m (item_id x)

publishes_unsampled : (s : State) (h : ℕ) (acks : List Acknowledgement) (room places : ℕ) (t : Step ℕ) → cases.Publishing s h acks room places t → Unsampled t.events
publishes_unsampled s h acks room places t (cases.short e) = tt
publishes_unsampled s h acks room places t (cases.short_results e) = tt
publishes_unsampled s h acks room places t (cases.many e) = tt
publishes_unsampled s h acks room places t (cases.accepted u l r) = requesting_unsampled (cases.acknowledged_state s acks) h u r

republish_unsampled : (s : State) (id n : ℕ) → Unsampled (republish s id n).events
republish_unsampled s id n = found (live_in id s.subscriptions)
  where
    given : (f : Figures) (o : Option Message) → Unsampled (for_message o s n (λ m. answers (with_subscriptions s (replaced id_of (named f) s.subscriptions)) m [])).events
    given f None = tt
    given f (Some m) = tt

    found : (o : Option Figures) →
        Unsampled (for_live o s id (λ f. for_message (lookup number_of n (kept_of id s.kept)) s n (λ m. answers (with_subscriptions s (replaced id_of (named f) s.subscriptions)) m []))).events
    found None = tt
    found (Some f) = given f (lookup number_of n (kept_of id s.kept))

tick_sampled : (stands : ℕ → Option Standing) (s : State) (room : ℕ) (id : ℕ) (v : Sample) (t : Step ℕ) → cases.Ticking stands s room t → In (Sampled id v) t.events → SampledIn stands s.items id v
tick_sampled stands s room id v t (cases.short e) h = absurd h
tick_sampled stands s room id v t cases.passes_all_lem h =
    elim (in_cases (Sampled id v) (samplings stands s.items) (passed (sampled_state stands s)).events h) [
      | inl i ↦ samplings_in stands s.items id v i
      | inr i ↦ absurd (none_sampled id v (passed (sampled_state stands s)).events (all_unsampled s.subscriptions (shared_of (sampled_state stands s))) i)
    ]

module _ (stands : ℕ → Option Standing) (s : State) (k : ℕ) (v : Sample) where
  never : (es : List Event) → Unsampled es → In (Sampled k v) es → SampledIn stands s.items k v
  never es a h = absurd (none_sampled k v es a h)

  done_sampled : (c : Call) → In (Sampled k v) (done_by stands s c).events → SampledIn stands s.items k v
  done_sampled (CreateSubscription p enabled) h = never (create_subscription s p enabled).events (creates_unsampled s p enabled _ (cases.creating_subscription s p enabled)) h
  done_sampled (ModifySubscription id p) h = never (modify_subscription s id p).events (modifies_unsampled s id p _ (cases.modifying_subscription s id p)) h
  done_sampled (SetPublishingMode id enabled) h = never (set_publishing_mode s id enabled).events (enables_unsampled s id enabled _ (cases.setting_publishing s id enabled)) h
  done_sampled (DeleteSubscription id room) h = never (delete_subscription s id room).events (deletes_unsampled s id room _ (cases.deleting_subscription s id room)) h
  done_sampled (CreateItem id node mode p) h = never (create_item stands s id node mode p).events (adds_unsampled stands s id node mode p _ (cases.creating_item stands s id node mode p)) h
  done_sampled (ModifyItem id item p) h = never (modify_item s id item p).events (changes_unsampled s id item p _ (cases.modifying_item s id item p)) h
  done_sampled (DeleteItem id item) h = never (delete_item s id item).events (removes_unsampled s id item _ (cases.deleting_item s id item)) h
  done_sampled (SetMonitoringMode id item mode) h = never (set_monitoring_mode s id item mode).events (modes_unsampled s id item mode _ (cases.setting_mode s id item mode)) h
  done_sampled (Publish handle acks room places) h = never (publish s handle acks room places).events (publishes_unsampled s handle acks room places _ (cases.publishing_call s handle acks room places)) h
  done_sampled (Republish id n) h = never (republish s id n).events (republish_unsampled s id n) h
  done_sampled (Tick room) h = tick_sampled stands s room k v (tick stands s room) (cases.ticking stands s room) h

pub from_source : (first : ℕ) (scenes : List Scene) → FromSource first scenes
from_source first scenes before c after id v e h = done_sampled c.stands (final (new_state first) before) id v c.call h
