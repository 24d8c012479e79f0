-- An item with nothing waiting shows what the source stood at when it was last sampled.
use Rattle.std.proofs.Common.{◌≡◌, ℕ, ◌<◌, Bool, true, false, List, [], ◌∷◌, Some, None, Option, sym, refl, ap, ◌∙◌, subst, inl, inr, arith}
use Rattle.std.proofs.ByRecursion.{All-push}
use Rattle.fifo.specs.Lists.{lookup, replaced}
use Rattle.values.specs.declared.value.Sample.{Sample}
use Rattle.values.specs.Change.{changed}
use Rattle.values.proofs.Changes.{changed_either}
use Rattle.sources.specs.declared.source.Standing.{Standing}
use Rattle.subscriptions.specs.declared.figures.Figures.{Figures}
use Rattle.subscriptions.specs.Keys.{id_of}
use Rattle.subscriptions.specs.Changes.{named}
use Rattle.items.specs.declared.item.Mode.{Mode}
use Rattle.items.specs.declared.item.Mode.TheVariants.{Disabled, Sampling, Reporting}
use Rattle.items.specs.Item.{Item, modified, between, moded, ticked}
use Rattle.items.specs.Keys.{id_of as item_id}
use Rattle.items.specs.Queue.{queue_size_of}
use Rattle.item_table.proofs.Orders.{rising_map, ticked_id}
use Rattle.messages.specs.declared.message.Message.{Message}
use Rattle.messages.specs.Messages.{number_of}
use Rattle.retransmission.specs.Rows.{kept_of}
use Rattle.answers.specs.declared.acknowledgement.Acknowledgement.{Acknowledgement}
use Rattle.subscriptions.specs.declared.parameters.SubscriptionParameters.{SubscriptionParameters}
use Rattle.subscriptions.specs.declared.parameters.RevisedSubscription.{RevisedSubscription}
use Rattle.model.specs.declared.revised.CreatedSubscription.{CreatedSubscription}
use Rattle.model.specs.declared.revised.RevisedItem.{RevisedItem}
use Rattle.model.specs.declared.revised.CreatedItem.{CreatedItem}
use Rattle.model.specs.declared.parameters.MonitoringParameters.{MonitoringParameters}
use Rattle.model.specs.State.{State, new_state, live_in, with_subscriptions}
use Rattle.model.specs.Steps.{Joined, Started, Step, answers, for_live}
use Rattle.model.specs.Monitoring.{settings_of, new_item, starting}
use Rattle.model.specs.Messages.{message}
use Rattle.model.specs.Republish.{for_message, republish}
use Rattle.model.specs.Tick.{samplings, passed, shared_of, sampled_state, enabled_mode}
use Rattle.model.specs.Sound.{newest, Sound}
use Rattle.soundness.proofs.Held.{item_found}
use Rattle.soundness.proofs.Members.{none_some}
use Rattle.soundness.proofs.Subs.{lookup_all, all_without, all_both, all_in}
use Rattle.soundness.proofs.Keeps.{sound_new}
use Rattle.soundness.proofs.Cases as cases
use Rattle.laws.specs.Runs.{Call, CreateSubscription, ModifySubscription, SetPublishingMode, DeleteSubscription, CreateItem, ModifyItem, DeleteItem, SetMonitoringMode, Publish, Republish, Tick, Scene, done_by, called, final, events}
use Rattle.laws.specs.Laws.{Since, nothing, Shown, UpToDate}
use Rattle.laws.proofs.Sounds.{sound_call}
use Rattle.laws.proofs.Tracked.{Tracked, QueuedOrSent, this, another, tracked_start, tracked_between}
use Rattle.laws.proofs.Following.{after, after_append, Follows, Following, follows_replaced, following_others, message_following, all_following, follows_sampled}

-- a step of a call: what was known before, and its events
abbrev KeptKnown : {X : Type 0} → (ℕ → Since) → Step X → Type 0
KeptKnown known t = Follows (after known t.events) t.state.items

-- an item starts, and no other has its id
started_other : (known : ℕ → Since) (k j : ℕ) → (j ≡ k → ⊥) → after known (Started k ∷ []) j ≡ known j
started_other known k j n = another k j nothing (known j) (λ e. n (sym e))

started_this : (known : ℕ → Since) (x : Item) → x.last ≡ None → Tracked x (after known (Started (item_id x) ∷ []) (item_id x))
started_this known x e = subst (Tracked x) (sym (this (item_id x) nothing (known (item_id x)))) (tracked_start x e)

starting_other : (known : ℕ → Since) (a b : Mode) (k j : ℕ) → (j ≡ k → ⊥) → after known (starting a b k) j ≡ known j
starting_other known Disabled Disabled k j n = refl
starting_other known Disabled Sampling k j n = started_other known k j n
starting_other known Disabled Reporting k j n = started_other known k j n
starting_other known Sampling b k j n = refl
starting_other known Reporting b k j n = refl

between_id : (a b : Mode) (x : Item) → item_id (between a b x) ≡ item_id x
between_id Disabled Disabled x = refl
between_id Disabled Sampling x = refl
between_id Disabled Reporting x = refl
between_id Sampling Disabled x = refl
between_id Sampling Sampling x = refl
between_id Sampling Reporting x = refl
between_id Reporting Disabled x = refl
between_id Reporting Sampling x = refl
between_id Reporting Reporting x = refl

-- a request, with the state as it is after the acknowledgements
requesting_known : (known : ℕ → Since) (s : State) (n : ℕ) → Following known s.items → (t : Step ℕ) → cases.Requesting s n t → KeptKnown known t
requesting_known known s n h t (cases.nobody e) = h.each
requesting_known known s n h t (cases.lost id l e) = h.each
requesting_known known s n h t (cases.answered id f l e v m) = (message_following known n f s.items s.kept h).each
requesting_known known s n h t (cases.again id f l e v m) =
    let w = message n f s.items s.kept in
    subst (λ k. Follows k w.items) (after_append known w.events (Joined w.figures.id ∷ [])) (message_following known n f s.items s.kept h).each
requesting_known known s n h t (cases.ended id f l e v) = h.each
requesting_known known s n h t (cases.queued o l r) = h.each
requesting_known known s n h t (cases.crowds oldest o l r e) = h.each

module _ (known : ℕ → Since) (s : State) (sound : Sound s) (h : Follows known s.items) where
  rises : Following known s.items
  rises = record { rising = sound.monitored.rising; each = h }

  creates_known : (p : SubscriptionParameters) (enabled : Bool) (t : Step CreatedSubscription) → cases.CreatingSubscription s p enabled t → KeptKnown known t
  creates_known p enabled t (cases.full e) = h
  creates_known p enabled t (cases.used_up e) = h
  creates_known p enabled t (cases.made e n) = h

  modifies_known : (id : ℕ) (p : SubscriptionParameters) (t : Step RevisedSubscription) → cases.ModifyingSubscription s id p t → KeptKnown known t
  modifies_known id p t (cases.unknown e) = h
  modifies_known id p t (cases.modifies f e) = h

  enables_known : (id : ℕ) (enabled : Bool) (t : Step (Unit {0})) → cases.SettingPublishing s id enabled t → KeptKnown known t
  enables_known id enabled t (cases.unknown e) = h
  enables_known id enabled t (cases.sets f e) = h

  deletes_known : (id room : ℕ) (t : Step ℕ) → cases.DeletingSubscription s id room t → KeptKnown known t
  deletes_known id room t (cases.short e) = h
  deletes_known id room t (cases.unknown e) = h
  deletes_known id room t (cases.last f e n) = (following_others known id s.items rises).each
  deletes_known id room t (cases.one f e n) = (following_others known id s.items rises).each

  adds_known : (stands : ℕ → Option Standing) (id node mode : ℕ) (p : MonitoringParameters) (t : Step CreatedItem) → cases.CreatingItem stands s id node mode p t → KeptKnown known t
  adds_known stands id node mode p t (cases.unknown e) = h
  adds_known stands id node mode p t (cases.full e) = h
  adds_known stands id node mode p t (cases.used_up e) = h
  adds_known stands id node mode p t (cases.no_node e) = h
  adds_known stands id node mode p t (cases.bad shown x e c) = h
  adds_known stands id node mode p t (cases.adds f shown checks e n l k c) =
      let x = new_item s f id node p shown.kind checks in
      let more = after known (Started s.next ∷ []) in
      All-push (λ y. Tracked y (more (item_id y))) s.items x
      (all_both (λ y. item_id y < s.next) (λ y. Tracked y (known (item_id y))) (λ y. Tracked y (more (item_id y)))
      (λ y b g. subst (Tracked y) (sym (started_other known s.next (item_id y) (λ q. omega arith))) g)
      s.items
      sound.monitored.below
      h)
      (started_this known x refl)

  changes_known : (id item : ℕ) (p : MonitoringParameters) (t : Step RevisedItem) → cases.ModifyingItem s id item p t → KeptKnown known t
  changes_known id item p t (cases.unknown e) = h
  changes_known id item p t (cases.no_item e) = h
  changes_known id item p t (cases.bad x y e c) = h
  changes_known id item p t (cases.modifies f x filter e i c) =
      let y = modified x (settings_of p filter f) (queue_size_of p.queue_size) in
      follows_replaced known (after known (Started (item_id y) ∷ [])) y s.items sound.monitored.rising (started_other known (item_id y)) (started_this known y refl) h

  removes_known : (id item : ℕ) (t : Step (Unit {0})) → cases.DeletingItem s id item t → KeptKnown known t
  removes_known id item t (cases.unknown e) = h
  removes_known id item t (cases.no_item e) = h
  removes_known id item t (cases.deletes f x e i) = all_without item_id (λ y. Tracked y (known (item_id y))) item s.items h

  modes_known : (id item mode : ℕ) (t : Step (Unit {0})) → cases.SettingMode s id item mode t → KeptKnown known t
  modes_known id item mode t (cases.unknown e) = h
  modes_known id item mode t (cases.no_item e) = h
  modes_known id item mode t (cases.bad x c) = h
  modes_known id item mode t (cases.sets f x m e i c) =
      let y = moded x m in
      let more = after known (starting x.mode m (item_id x)) in
      let same = between_id x.mode m x in
      let g = lookup_all item_id (λ z. Tracked z (known (item_id z))) item s.items x h (item_found id item s.items x i) in
      follows_replaced known more y s.items sound.monitored.rising
      (λ j n. starting_other known x.mode m (item_id x) j (λ q. n (q ∙ sym same)))
      (subst (Tracked y) (sym (ap more same)) (tracked_between x.mode m x (item_id x) (known (item_id x)) refl g))
      h

  publishes_known : (n : ℕ) (acks : List Acknowledgement) (room places : ℕ) (t : Step ℕ) → cases.Publishing s n acks room places t → KeptKnown known t
  publishes_known n acks room places t (cases.short e) = h
  publishes_known n acks room places t (cases.short_results e) = h
  publishes_known n acks room places t (cases.many e) = h
  publishes_known n acks room places t (cases.accepted u l r) = requesting_known known (cases.acknowledged_state s acks) n rises u r

  republishes_known : (id n : ℕ) → KeptKnown known (republish s id n)
  republishes_known id n = found (live_in id s.subscriptions)
    where
      given : (f : Figures) (o : Option Message) → KeptKnown known (for_message o s n (λ m. answers (with_subscriptions s (replaced id_of (named f) s.subscriptions)) m []))
      given f None = h
      given f (Some m) = h

      found : (o : Option Figures) →
          KeptKnown known (for_live o s id (λ f. for_message (lookup number_of n (kept_of id s.kept)) s n (λ m. answers (with_subscriptions s (replaced id_of (named f) s.subscriptions)) m [])))
      found None = h
      found (Some f) = given f (lookup number_of n (kept_of id s.kept))

  ticks_known : (stands : ℕ → Option Standing) (room : ℕ) (t : Step ℕ) → cases.Ticking stands s room t → KeptKnown known t
  ticks_known stands room t (cases.short e) = h
  ticks_known stands room t cases.passes_all_lem =
      let es = samplings stands s.items in
      let q = shared_of (sampled_state stands s) in
      let p = passed (sampled_state stands s) in
      let r : Following (after known es) q.items = record { rising = rising_map item_id (ticked stands) (ticked_id stands) 0 s.items ∙ sound.monitored.rising; each = follows_sampled stands 0 known s.items sound.monitored.rising h } in
      subst (λ k. Follows k p.shared.items) (after_append known es p.events) (all_following (after known es) s.subscriptions q r).each

  done_known : (stands : ℕ → Option Standing) (c : Call) → Follows (after known (done_by stands s c).events) (done_by stands s c).state.items
  done_known stands (CreateSubscription p enabled) = creates_known p enabled _ (cases.creating_subscription s p enabled)
  done_known stands (ModifySubscription id p) = modifies_known id p _ (cases.modifying_subscription s id p)
  done_known stands (SetPublishingMode id enabled) = enables_known id enabled _ (cases.setting_publishing s id enabled)
  done_known stands (DeleteSubscription id room) = deletes_known id room _ (cases.deleting_subscription s id room)
  done_known stands (CreateItem id node mode p) = adds_known stands id node mode p _ (cases.creating_item stands s id node mode p)
  done_known stands (ModifyItem id item p) = changes_known id item p _ (cases.modifying_item s id item p)
  done_known stands (DeleteItem id item) = removes_known id item _ (cases.deleting_item s id item)
  done_known stands (SetMonitoringMode id item mode) = modes_known id item mode _ (cases.setting_mode s id item mode)
  done_known stands (Publish handle acks room places) = publishes_known handle acks room places _ (cases.publishing_call s handle acks room places)
  done_known stands (Republish id n) = republishes_known id n
  done_known stands (Tick room) = ticks_known stands room _ (cases.ticking stands s room)

-- over a run: what the events say of each item of the state
pub run_known : (known : ℕ → Since) (s : State) → Sound s → (scenes : List Scene) → Follows known s.items → Follows (after known (events s scenes)) (final s scenes).items
run_known known s sound [] h = h
run_known known s sound (c ∷ cs) h =
    let d = called s c in
    subst (λ k. Follows k (final d.state cs).items) (after_append known d.events (events d.state cs))
    (run_known (after known d.events) d.state (sound_call s sound c) cs (done_known known s sound h c.stands c.call))

tracked_shown : (x : Item) (t : Since) (v : Sample) → Tracked x t → enabled_mode x.mode ≡ true → x.waiting ≡ [] → t.sampled ≡ Some v → Shown x t.sent v
tracked_shown x t v h m w e = at (h.1 v m e)
  where
    by : (u : Sample) → changed x.settings.filter.filter u v ≡ false → QueuedOrSent x.waiting t.sent u → Shown x t.sent v
    by u c (inl p) = subst (λ o. Shown x o v) (sym p.1) (c, changed_either x.settings.filter v u ∙ c)
    by u c (inr n) = absurd (none_some (sym (ap newest w) ∙ n))

    at : (u : Sample) × (x.last ≡ Some u) × (changed x.settings.filter.filter u v ≡ false) → Shown x t.sent v
    at (u, l, c) = by u c (h.0 u m l)

pub up_to_date : (first : ℕ) (scenes : List Scene) → UpToDate first scenes
up_to_date first scenes x v i m w e =
    let known = after (λ id. nothing) (events (new_state first) scenes) in
    let a = run_known (λ id. nothing) (new_state first) (sound_new first) scenes tt in
    tracked_shown x (known (item_id x)) v (all_in (λ y. Tracked y (known (item_id y))) x (final (new_state first) scenes).items a i) m w e
