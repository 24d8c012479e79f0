-- The notifications in all responses are those of the sent events.
use Rattle.std.proofs.Common.{◌≡◌, ℕ, ◌≤◌, Bool, true, false, cond, List, [], ◌∷◌, ◌++◌, map, Some, None, Option, sym, refl, ap, ◌∙◌, subst, append_assoc, arith}
use Rattle.std.specs.List.{AllByRecursion}
use Rattle.std.proofs.ByRecursion.{All-weaker}
use Rattle.std.proofs.lemmas.List.{append-nil, length-map}
use Rattle.fifo.specs.Lists.{none, lookup, replaced}
use Rattle.values.specs.Notifications.{empty_notification}
use Rattle.values.specs.declared.notification.Notification.{Notification}
use Rattle.sources.specs.declared.source.Standing.{Standing}
use Rattle.sources.specs.Standings.{sample_of}
use Rattle.subscriptions.specs.declared.figures.Figures.{Figures}
use Rattle.subscriptions.specs.Keys.{id_of}
use Rattle.subscriptions.specs.Changes.{messaged, named, runs, counted_down}
use Rattle.subscriptions.specs.Cycle.{Cycled, cycle}
use Rattle.items.specs.declared.item.Mode.{Mode}
use Rattle.items.specs.declared.item.Mode.TheVariants.{Disabled, Sampling, Reporting}
use Rattle.items.specs.Item.{Item}
use Rattle.items.specs.Keys.{id_of as item_id}
use Rattle.item_table.specs.declared.served.Served.{Served}
use Rattle.item_table.specs.Turn.{notices, any_waits}
use Rattle.messages.specs.declared.message.Message.{Message}
use Rattle.messages.specs.declared.response.Response.{Response}
use Rattle.messages.specs.declared.response.ResponseKind.TheVariants.{NoSubscription}
use Rattle.messages.specs.Messages.{number_of}
use Rattle.messages.specs.Responses.{refusing, notifications_shown}
use Rattle.messages.proofs.Shown.{counted_padded}
use Rattle.retransmission.specs.Rows.{Kept, kept_of}
use Rattle.answers.specs.declared.acknowledgement.Acknowledgement.{Acknowledgement}
use Rattle.subscriptions.specs.declared.parameters.SubscriptionParameters.{SubscriptionParameters}
use Rattle.subscriptions.specs.declared.parameters.RevisedSubscription.{RevisedSubscription}
use Rattle.model.specs.declared.revised.CreatedSubscription.{CreatedSubscription}
use Rattle.model.specs.declared.revised.RevisedItem.{RevisedItem}
use Rattle.model.specs.declared.revised.CreatedItem.{CreatedItem}
use Rattle.model.specs.declared.parameters.MonitoringParameters.{MonitoringParameters}
use Rattle.model.specs.State.{State, new_state, live_in, with_subscriptions}
use Rattle.model.specs.Steps.{Event, Joined, Started, Sampled, Sent, Step, answers, for_live}
use Rattle.model.specs.Monitoring.{starting}
use Rattle.model.specs.Messages.{Sending, most_taken, taken, sent_event, by_taken, message}
use Rattle.model.specs.Republish.{for_message, republish}
use Rattle.model.specs.Tick.{Shared, Passed, samples, samplings, still_due, onward, messages, acts, asked, counts, passes_live, passes, passes_all, shared_of, sampled_state, passed}
use Rattle.model.specs.Sound.{alive, Bounded, Sound}
use Rattle.soundness.proofs.Subs.{lookup_all}
use Rattle.soundness.proofs.Held.{turns_few}
use Rattle.soundness.proofs.Sendings.{Limited, sent_of, Cycling, rests, sends, joins, ends, cycling}
use Rattle.soundness.proofs.Published.{published_all_acknowledged}
use Rattle.soundness.proofs.Keeps.{sound_new}
use Rattle.soundness.proofs.Cases as cases
use Rattle.laws.specs.Runs.{Call, CreateSubscription, ModifySubscription, SetPublishingMode, DeleteSubscription, CreateItem, ModifyItem, DeleteItem, SetMonitoringMode, Publish, Republish, Tick, Scene, done_by, called, responses, events}
use Rattle.laws.specs.Laws.{sent_notifications, all_are_shown, Notified}
use Rattle.laws.proofs.Sounds.{sound_call}

pub shown_append : (rs qs : List Response) → all_are_shown (rs ++ qs) ≡ all_are_shown rs ++ all_are_shown qs
shown_append [] qs = refl
shown_append (r ∷ rs) qs = ap (λ ns. notifications_shown r ++ ns) (shown_append rs qs) ∙ sym (append_assoc (notifications_shown r) (all_are_shown rs) (all_are_shown qs))

pub sent_append : (es fs : List Event) → sent_notifications (es ++ fs) ≡ sent_notifications es ++ sent_notifications fs
sent_append [] fs = refl
sent_append (Joined s ∷ es) fs = sent_append es fs
sent_append (Started x ∷ es) fs = sent_append es fs
sent_append (Sampled x v ∷ es) fs = sent_append es fs
sent_append (Sent x n ∷ es) fs = ap (λ ns. n ∷ ns) (sent_append es fs)

-- responses and events say the same
abbrev pub Agree : List Response → List Event → Type 0
Agree rs es = all_are_shown rs ≡ sent_notifications es

agree_append : (rs qs : List Response) (es fs : List Event) → Agree rs es → Agree qs fs → Agree (rs ++ qs) (es ++ fs)
agree_append rs qs es fs a b = shown_append rs qs ∙ ap (λ ns. ns ++ all_are_shown qs) a ∙ ap (λ ns. sent_notifications es ++ ns) b ∙ sym (sent_append es fs)

sent_notices : (ws : List Served) → sent_notifications (map sent_event ws) ≡ notices ws
sent_notices [] = refl
sent_notices (w ∷ ws) = ap (λ ns. w.notification ∷ ns) (sent_notices ws)

most_few : (f : Figures) → Limited f → most_taken f ≤ 16
most_few f l = at f.enabled
  where
    at : (b : Bool) → cond b f.revised.limit 0 ≤ 16
    at true = l
    at false = omega arith

message_agrees : (h : ℕ) (f : Figures) (xs : List Item) (kept : List Kept) → Limited f → Agree ((message h f xs kept).response ∷ []) (message h f xs kept).events
message_agrees h f xs kept l = at (none (taken f xs).sent)
  where
    ns : List Notification
    ns = notices (taken f xs).sent

    at : (b : Bool) → Agree ((by_taken b h (messaged f) (taken f xs) kept).response ∷ []) (by_taken b h (messaged f) (taken f xs) kept).events
    at true = refl
    at false =
        let c = length-map (taken f xs).sent (λ w. w.notification) in
        let u = turns_few (most_taken f) f.id f.served xs in
        let v = most_few f l in
        append-nil _ ∙ counted_padded 16 empty_notification ns (omega arith) ∙ sym (sent_notices (taken f xs).sent)

messages_agree : (hs : List ℕ) (f : Figures) (xs : List Item) (kept : List Kept) (late : List ℕ) → Limited f → Agree (messages hs f xs kept late).responses (messages hs f xs kept late).events
messages_agree [] f xs kept late l = refl
messages_agree (h ∷ hs) f xs kept late l =
    let m = message h f xs kept in
    at (still_due m) m (message_agrees h f xs kept l) (messages hs m.figures m.items m.kept late) (messages_agree hs m.figures m.items m.kept late (sent_of h f xs kept l).limited)
  where
    at : (b : Bool) (m : Sending) → Agree (m.response ∷ []) m.events → (p : Passed) → Agree p.responses p.events → Agree (onward b m hs late p).responses (onward b m hs late p).events
    at true m a p ih = agree_append (m.response ∷ []) p.responses m.events p.events a ih
    at false m a p ih = agree_append (m.response ∷ []) [] m.events [] a refl

acts_agree : (f : Figures) (q : Shared) (c : Cycled) → Limited f → Cycling f c → Agree (acts c.outcome c.after q).responses (acts c.outcome c.after q).events
acts_agree f q c l (rests g i b) = refl
acts_agree f q c l (joins g i b) = refl
acts_agree f q c l (ends g i b) = refl
acts_agree f q c l (sends g i b v) = messages_agree q.requests g q.items q.kept q.late (subst (λ w. w.limit ≤ 16) (sym v) l)

passes_agree : (f : Figures) (q : Shared) → Limited f → Agree (passes f q).responses (passes f q).events
passes_agree f q l = at (alive f) refl
  where
    count : (b : Bool) → alive f ≡ true → Agree (counts b f q).responses (counts b f q).events
    count true a =
        let g = counted_down f in
        let w = any_waits g.id q.items in
        acts_agree g q (cycle (asked q) w g) l (cycling (asked q) w g a)
    count false a = refl

    at : (b : Bool) → alive f ≡ b → Agree (passes_live b f q).responses (passes_live b f q).events
    at true a = count (runs f) a
    at false a = refl

all_agree : (fs : List Figures) (q : Shared) → AllByRecursion Limited fs → Agree (passes_all fs q).responses (passes_all fs q).events
all_agree [] q l = refl
all_agree (f ∷ fs) q l =
    let p = passes f q in
    agree_append p.responses (passes_all fs p.shared).responses p.events (passes_all fs p.shared).events (passes_agree f q l.0) (all_agree fs p.shared l.1)

samplings_silent : (stands : ℕ → Option Standing) (xs : List Item) → sent_notifications (samplings stands xs) ≡ []
samplings_silent stands [] = refl
samplings_silent stands (x ∷ xs) = at (samples x) (samplings_silent stands xs)
  where
    at : (b : Bool) → sent_notifications (samplings stands xs) ≡ [] → sent_notifications (cond b (Sampled (item_id x) (sample_of (stands x.identity.node)) ∷ samplings stands xs) (samplings stands xs)) ≡ []
    at true ih = ih
    at false ih = ih

refusing_silent : (hs : List ℕ) → all_are_shown (map (refusing NoSubscription) hs) ≡ []
refusing_silent [] = refl
refusing_silent (h ∷ hs) = refusing_silent hs

starting_silent : (a b : Mode) (id : ℕ) → sent_notifications (starting a b id) ≡ []
starting_silent Disabled Disabled id = refl
starting_silent Disabled Sampling id = refl
starting_silent Disabled Reporting id = refl
starting_silent Sampling m id = refl
starting_silent Reporting m id = refl

abbrev Agrees : {X : Type 0} → Step X → Type 0
Agrees t = Agree t.responses t.events

creates_agree : (s : State) (p : SubscriptionParameters) (enabled : Bool) (t : Step CreatedSubscription) → cases.CreatingSubscription s p enabled t → Agrees t
creates_agree s p enabled t (cases.full e) = refl
creates_agree s p enabled t (cases.used_up e) = refl
creates_agree s p enabled t (cases.made e n) = refl

modifies_agree : (s : State) (id : ℕ) (p : SubscriptionParameters) (t : Step RevisedSubscription) → cases.ModifyingSubscription s id p t → Agrees t
modifies_agree s id p t (cases.unknown e) = refl
modifies_agree s id p t (cases.modifies f e) = refl

enables_agree : (s : State) (id : ℕ) (enabled : Bool) (t : Step (Unit {0})) → cases.SettingPublishing s id enabled t → Agrees t
enables_agree s id enabled t (cases.unknown e) = refl
enables_agree s id enabled t (cases.sets f e) = refl

deletes_agree : (s : State) (id room : ℕ) (t : Step ℕ) → cases.DeletingSubscription s id room t → Agrees t
deletes_agree s id room t (cases.short e) = refl
deletes_agree s id room t (cases.unknown e) = refl
deletes_agree s id room t (cases.last f e n) = refusing_silent s.requests
deletes_agree s id room t (cases.one f e n) = refl

adds_agree : (stands : ℕ → Option Standing) (s : State) (id node mode : ℕ) (p : MonitoringParameters) (t : Step CreatedItem) → cases.CreatingItem stands s id node mode p t → Agrees t
adds_agree stands s id node mode p t (cases.unknown e) = refl
adds_agree stands s id node mode p t (cases.full e) = refl
adds_agree stands s id node mode p t (cases.used_up e) = refl
adds_agree stands s id node mode p t (cases.no_node e) = refl
adds_agree stands s id node mode p t (cases.bad shown x e c) = refl
adds_agree stands s id node mode p t (cases.adds f shown checks e n l k c) = refl

changes_agree : (s : State) (id item : ℕ) (p : MonitoringParameters) (t : Step RevisedItem) → cases.ModifyingItem s id item p t → Agrees t
changes_agree s id item p t (cases.unknown e) = refl
changes_agree s id item p t (cases.no_item e) = refl
changes_agree s id item p t (cases.bad x y e c) = refl
changes_agree s id item p t (cases.modifies f x filter e i c) = refl

removes_agree : (s : State) (id item : ℕ) (t : Step (Unit {0})) → cases.DeletingItem s id item t → Agrees t
removes_agree s id item t (cases.unknown e) = refl
removes_agree s id item t (cases.no_item e) = refl
removes_agree s id item t (cases.deletes f x e i) = refl

modes_agree : (s : State) (id item mode : ℕ) (t : Step (Unit {0})) → cases.SettingMode s id item mode t → Agrees t
modes_agree s id item mode t (cases.unknown e) = refl
modes_agree s id item mode t (cases.no_item e) = refl
modes_agree s id item mode t (cases.bad x c) = refl
modes_agree s id item mode t (cases.sets f x m e i c) = sym (starting_silent x.mode m (item_id x))

-- a request, with the state as it is after the acknowledgements
requesting_agrees : (s : State) (h : ℕ) → AllByRecursion Limited s.subscriptions → (t : Step ℕ) → cases.Requesting s h t → Agrees t
requesting_agrees s h a t (cases.nobody e) = refl
requesting_agrees s h a t (cases.lost id l e) = refl
requesting_agrees s h a t (cases.answered id f l e v m) = message_agrees h f s.items s.kept (lookup_all id_of Limited id s.subscriptions f a e)
requesting_agrees s h a t (cases.again id f l e v m) =
    let n = message h f s.items s.kept in
    agree_append (n.response ∷ []) [] n.events (Joined n.figures.id ∷ []) (message_agrees h f s.items s.kept (lookup_all id_of Limited id s.subscriptions f a e)) refl
requesting_agrees s h a t (cases.ended id f l e v) = refl
requesting_agrees s h a t (cases.queued n l r) = refl
requesting_agrees s h a t (cases.crowds oldest n l r e) = refl

limits : (fs : List Figures) → AllByRecursion Bounded fs → AllByRecursion Limited fs
limits fs a = All-weaker Bounded Limited (λ f b. b.2.1) fs a

publishes_agree : (s : State) → Sound s → (h : ℕ) (acks : List Acknowledgement) (room places : ℕ) (t : Step ℕ) → cases.Publishing s h acks room places t → Agrees t
publishes_agree s sound h acks room places t (cases.short e) = refl
publishes_agree s sound h acks room places t (cases.short_results e) = refl
publishes_agree s sound h acks room places t (cases.many e) = refl
publishes_agree s sound h acks room places t (cases.accepted u l r) =
    let s' = cases.acknowledged_state s acks in
    requesting_agrees s' h (limits s'.subscriptions (published_all_acknowledged acks s sound.published).bounded) u r

republishes_agree : (s : State) (id n : ℕ) → Agrees (republish s id n)
republishes_agree s id n = found (live_in id s.subscriptions)
  where
    given : (f : Figures) (o : Option Message) → Agrees (for_message o s n (λ m. answers (with_subscriptions s (replaced id_of (named f) s.subscriptions)) m []))
    given f None = refl
    given f (Some m) = refl

    found : (o : Option Figures) → Agrees (for_live o s id (λ f. for_message (lookup number_of n (kept_of id s.kept)) s n (λ m. answers (with_subscriptions s (replaced id_of (named f) s.subscriptions)) m [])))
    found None = refl
    found (Some f) = given f (lookup number_of n (kept_of id s.kept))

ticks_agree : (stands : ℕ → Option Standing) (s : State) → Sound s → (room : ℕ) (t : Step ℕ) → cases.Ticking stands s room t → Agrees t
ticks_agree stands s sound room t (cases.short e) = refl
ticks_agree stands s sound room t cases.passes_all_lem =
    let p = passed (sampled_state stands s) in
    let a = all_agree s.subscriptions (shared_of (sampled_state stands s)) (limits s.subscriptions sound.published.bounded) in
    agree_append [] p.responses (samplings stands s.items) p.events (sym (samplings_silent stands s.items)) a

done_agrees : (stands : ℕ → Option Standing) (s : State) → Sound s → (c : Call) → Agree (done_by stands s c).responses (done_by stands s c).events
done_agrees stands s sound (CreateSubscription p enabled) = creates_agree s p enabled _ (cases.creating_subscription s p enabled)
done_agrees stands s sound (ModifySubscription id p) = modifies_agree s id p _ (cases.modifying_subscription s id p)
done_agrees stands s sound (SetPublishingMode id enabled) = enables_agree s id enabled _ (cases.setting_publishing s id enabled)
done_agrees stands s sound (DeleteSubscription id room) = deletes_agree s id room _ (cases.deleting_subscription s id room)
done_agrees stands s sound (CreateItem id node mode p) = adds_agree stands s id node mode p _ (cases.creating_item stands s id node mode p)
done_agrees stands s sound (ModifyItem id item p) = changes_agree s id item p _ (cases.modifying_item s id item p)
done_agrees stands s sound (DeleteItem id item) = removes_agree s id item _ (cases.deleting_item s id item)
done_agrees stands s sound (SetMonitoringMode id item mode) = modes_agree s id item mode _ (cases.setting_mode s id item mode)
done_agrees stands s sound (Publish handle acks room places) = publishes_agree s sound handle acks room places _ (cases.publishing_call s handle acks room places)
done_agrees stands s sound (Republish id n) = republishes_agree s id n
done_agrees stands s sound (Tick room) = ticks_agree stands s sound room _ (cases.ticking stands s room)

pub call_agrees : (s : State) → Sound s → (c : Scene) → Agree (called s c).responses (called s c).events
call_agrees s sound c = done_agrees c.stands s sound c.call

run_agrees : (s : State) → Sound s → (scenes : List Scene) → Agree (responses s scenes) (events s scenes)
run_agrees s sound [] = refl
run_agrees s sound (c ∷ cs) =
    let d = called s c in
    agree_append d.responses (responses d.state cs) d.events (events d.state cs) (call_agrees s sound c) (run_agrees d.state (sound_call s sound c) cs)

pub notified : (first : ℕ) (scenes : List Scene) → Notified first scenes
notified first scenes = run_agrees (new_state first) (sound_new first) scenes
