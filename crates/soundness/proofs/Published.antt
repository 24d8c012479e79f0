-- Every step keeps what holds of the subscriptions, the requests and the late list.
use Rattle.std.proofs.Common.{◌≡◌, ℕ, suc, ◌+◌, ◌<◌, ◌≤◌, Bool, true, ◌⊎◌, List, [], ◌∷◌, ◌++◌, map, length, Some, None, Option, sym, refl, ap, ◌∙◌, subst, inl, inr, arith}
use Rattle.std.specs.List.{AllByRecursion}
use Rattle.std.proofs.lemmas.List.{length-map, length_push, length-append, map_push}
use Rattle.std.proofs.ByRecursion.{All-weaker, All-push, All-map}
use Rattle.std.proofs.lemmas.Bool.{true≢false}
use Rattle.fifo.specs.Lists.{none, first, rest, lookup, replaced, without}
use Rattle.sources.specs.declared.source.Standing.{Standing}
use Rattle.subscriptions.specs.declared.figures.Figures.{Figures}
use Rattle.subscriptions.specs.Facts.{prompt, live}
use Rattle.subscriptions.specs.Keys.{id_of}
use Rattle.subscriptions.specs.Changes.{created, modified, publishing, named, joined}
use Rattle.subscriptions.specs.Revision.{revision}
use Rattle.items.specs.Item.{Item}
use Rattle.item_table.specs.Rising.{rising_by}
use Rattle.item_table.proofs.Orders.{rising_replaced, rising_without}
use Rattle.messages.specs.declared.message.Message.{Message}
use Rattle.retransmission.specs.Rows.{Kept}
use Rattle.answers.specs.declared.acknowledgement.Acknowledgement.{Acknowledgement}
use Rattle.subscriptions.specs.declared.parameters.SubscriptionParameters.{SubscriptionParameters}
use Rattle.subscriptions.specs.declared.parameters.RevisedSubscription.{RevisedSubscription}
use Rattle.model.specs.declared.revised.CreatedSubscription.{CreatedSubscription}
use Rattle.model.specs.declared.revised.RevisedItem.{RevisedItem}
use Rattle.model.specs.declared.revised.CreatedItem.{CreatedItem}
use Rattle.model.specs.declared.parameters.MonitoringParameters.{MonitoringParameters}
use Rattle.model.specs.State.{State, new_state, live_in}
use Rattle.model.specs.Steps.{Step}
use Rattle.model.specs.Subscribing.{create_subscription, modify_subscription, set_publishing_mode, delete_subscription}
use Rattle.model.specs.Monitoring.{create_item, modify_item, delete_item, set_monitoring_mode}
use Rattle.model.specs.Messages.{message}
use Rattle.model.specs.Publish.{acknowledged_by, acknowledged, publish}
use Rattle.model.specs.Republish.{republish}
use Rattle.model.specs.Tick.{Pass, sampled_state, shared_of, passed, leaves, tick}
use Rattle.model.specs.Sound.{In, Distinct, Within, Bounded, Placed, Published}
use Rattle.soundness.proofs.Members.{none_some, in_left, in_cases, in_push, in_last, in_rest, distinct_rest, first_out, first_in, in_first, first_none, none_push, tail_empty, distinct_push, without_in, in_without, distinct_without, out_without, pigeonhole}
use Rattle.soundness.proofs.Subs.{all_both, lookup_key, lookup_all, in_lookup, keys_replaced, keys_without, all_replaced, all_without, length_replaced, length_without, same_length, none_keys, all_keys, others_without, others_replaced, below_out, rising_distinct, rising_last, rising_keys}
use Rattle.soundness.proofs.Bounds.{revision_bounds, created_bounded, modified_bounded, publishing_bounded, named_bounded, joined_prompt, joined_live, joined_bounded}
use Rattle.soundness.proofs.Cases.{live_found, Requesting, nobody, lost, answered, again, ended, queued, crowds, acknowledged_state}
use Rattle.soundness.proofs.Cases as cases
use Rattle.soundness.proofs.Turns.{handle_of, message_carried}
use Rattle.soundness.proofs.Passes.{spent_live, AllPassed, all_passed}

pub published_new : (first : ℕ) → Published (new_state first)
published_new n =
    record {
      few = omega arith;
      rising = refl;
      below = tt;
      bounded = tt;
      once = tt;
      known = λ k h. h;
      placed = tt;
      calm = inl refl;
      asked = λ e. refl;
      queued = omega arith;
      given = omega arith;
    }

-- at most four are late
pub late_few : (s : State) → Published s → length s.late ≤ 4
late_few s h =
    let p = pigeonhole s.late (map id_of s.subscriptions) h.once h.known in
    let f = h.few in
    omega (arith, length-map s.subscriptions id_of)

-- the ids differ
pub ids_distinct : (s : State) → Published s → Distinct (map id_of s.subscriptions)
ids_distinct s h = rising_distinct id_of 0 s.subscriptions h.rising

-- with a late subscription no request is queued
pub calmed : (late hs : List ℕ) (id : ℕ) → first late ≡ Some id → (late ≡ []) ⊎ (hs ≡ []) → hs ≡ []
calmed late hs id e (inl z) = absurd (none_some (ap first (sym z) ∙ e))
calmed late hs id e (inr z) = z

-- the first of the late list has a slot
pub never_lost : (s : State) → Published s → (id : ℕ) → first s.late ≡ Some id → lookup id_of id s.subscriptions ≡ None → ⊥
never_lost s h id l e = in_lookup id_of id s.subscriptions (h.known id (first_in id s.late l)) e

-- a change of phase within live phases
placed_as : (late : List ℕ) (f f' : Figures) → f'.id ≡ f.id → prompt f'.phase ≡ prompt f.phase → live f'.phase ≡ true → Placed late f → Placed late f'
placed_as late f f' i p v a =
    ((λ q h. a.0 (sym p ∙ q) (subst (λ k. In k late) i h)), (λ q. subst (λ k. In k late) (sym i) (a.1 (sym p ∙ q))), spent_live f' v)

-- with other items and kept messages, and more ids given
pub published_beside : (s : State) → Published s → (n : ℕ) → s.next ≤ n → (xs : List Item) (kept : List Kept) →
    Published (record { next = n; subscriptions = s.subscriptions; items = xs; kept = kept; requests = s.requests; late = s.late })
published_beside s h n l xs kept =
    record {
      few = h.few;
      rising = h.rising;
      below = All-weaker (λ f. f.id < s.next) (λ f. f.id < n) (λ f z. omega arith) s.subscriptions h.below;
      bounded = h.bounded;
      once = h.once;
      known = h.known;
      placed = h.placed;
      calm = h.calm;
      asked = h.asked;
      queued = h.queued;
      given = let g = h.given in omega arith;
    }

-- a subscription is replaced, and the late list is as it was
pub published_replaced : (s : State) → Published s → (id : ℕ) (f f' : Figures) → lookup id_of id s.subscriptions ≡ Some f → f'.id ≡ f.id → Bounded f' → Placed s.late f' → (xs : List Item) (kept : List Kept) →
    Published (record { next = s.next; subscriptions = replaced id_of f' s.subscriptions; items = xs; kept = kept; requests = s.requests; late = s.late })
published_replaced s h id f f' e i b p xs kept =
    let fs = s.subscriptions in
    let ks = keys_replaced id_of f' fs in
    record {
      few = let l = length_replaced id_of f' fs in let g = h.few in omega arith;
      rising = rising_replaced id_of 0 f' fs ∙ h.rising;
      below = all_replaced id_of (λ g. g.id < s.next) f' fs h.below (subst (λ n. n < s.next) (sym i) (lookup_all id_of (λ g. g.id < s.next) id fs f h.below e));
      bounded = all_replaced id_of Bounded f' fs h.bounded b;
      once = h.once;
      known = λ k x. subst (In k) (sym ks) (h.known k x);
      placed = all_replaced id_of (Placed s.late) f' fs h.placed p;
      calm = h.calm;
      asked = λ z. h.asked (sym (none_keys id_of (replaced id_of f' fs) fs ks) ∙ z);
      queued = h.queued;
      given = h.given;
    }

-- a live subscription is replaced by one of the same phase
module _ (s : State) (h : Published s) (id : ℕ) (f : Figures) (e : live_in id s.subscriptions ≡ Some f) where
  here : lookup id_of id s.subscriptions ≡ Some f
  here = (live_found id s.subscriptions f e).0

  pub live_bounded : Bounded f
  live_bounded = lookup_all id_of Bounded id s.subscriptions f h.bounded here

  pub live_placed : Placed s.late f
  live_placed = lookup_all id_of (Placed s.late) id s.subscriptions f h.placed here

  pub published_live : (f' : Figures) → f'.id ≡ f.id → f'.phase ≡ f.phase → Bounded f' → (xs : List Item) (kept : List Kept) →
      Published (record { next = s.next; subscriptions = replaced id_of f' s.subscriptions; items = xs; kept = kept; requests = s.requests; late = s.late })
  published_live f' i p b xs kept =
      published_replaced s h id f f' here i b (placed_as s.late f f' i (ap prompt p) (ap live p ∙ (live_found id s.subscriptions f e).1) live_placed) xs kept

  -- named by a call
  pub published_named : (xs : List Item) (kept : List Kept) →
      Published (record { next = s.next; subscriptions = replaced id_of (named f) s.subscriptions; items = xs; kept = kept; requests = s.requests; late = s.late })
  published_named xs kept = published_live (named f) refl refl (named_bounded f live_bounded) xs kept

-- a slot is freed, and its id leaves the late list
pub published_without : (s : State) → Published s → (id : ℕ) (hs late : List ℕ) (xs : List Item) (kept : List Kept) →
    Distinct late → Within late s.late → (In id late → ⊥) → ((k : ℕ) → (k ≡ id → ⊥) → In k s.late → In k late) →
    (s.late ≡ [] → late ≡ []) → (s.requests ≡ [] → hs ≡ []) → (none (without id_of id s.subscriptions) ≡ true → hs ≡ []) → length hs ≤ 8 →
    Published (record { next = s.next; subscriptions = without id_of id s.subscriptions; items = xs; kept = kept; requests = hs; late = late })
published_without s h id hs late xs kept once fewer out others late-none none-asked nobody-asks few =
    let fs = s.subscriptions in
    let ks = keys_without id_of id fs in
    record {
      few = let l = length_without id_of id fs in let g = h.few in omega arith;
      rising = rising_without id_of 0 id fs h.rising;
      below = all_without id_of (λ g. g.id < s.next) id fs h.below;
      bounded = all_without id_of Bounded id fs h.bounded;
      once = once;
      known = λ k x. subst (In k) (sym ks) (in_without k id (map id_of fs) (λ z. out (subst (λ n. In n late) z x)) (h.known k (fewer k x)));
      placed =
          all_both (λ g. g.id ≡ id → ⊥) (Placed s.late) (Placed late) (λ g n p. ((λ q x. p.0 q (fewer g.id x)), (λ q. others g.id n (p.1 q)), p.2)) (without id_of id fs)
          (others_without id_of id fs (ids_distinct s h)) (all_without id_of (Placed s.late) id fs h.placed);
      calm = elim h.calm [ inl z ↦ inl (late-none z) | inr z ↦ inr (none-asked z) ];
      asked = nobody-asks;
      queued = few;
      given = h.given;
    }

module _ (s : State) (h : Published s) where
  pub create_kept : (p : SubscriptionParameters) (enabled : Bool) (t : Step CreatedSubscription) → cases.CreatingSubscription s p enabled t → Published t.state
  create_kept p enabled t (cases.full e) = h
  create_kept p enabled t (cases.used_up u) = h
  create_kept p enabled t (cases.made n u) =
      let fs = s.subscriptions in
      let f : Figures = created s.next (revision p) enabled in
      let ks = map_push id_of fs f in
      let o = below_out id_of s.next fs h.below in
      record {
        few = let z = length_push fs f in let y = h.few in omega (arith, n);
        rising = rising_last id_of 0 f fs h.rising (let g = h.given in omega arith) h.below;
        below = All-push (λ g. g.id < s.next + 1) fs f (All-weaker (λ g. g.id < s.next) (λ g. g.id < s.next + 1) (λ g z. omega arith) fs h.below) (omega arith);
        bounded = All-push Bounded fs f h.bounded (created_bounded s.next (revision p) enabled (revision_bounds p));
        once = h.once;
        known = λ j x. subst (In j) (sym ks) (in_left j (map id_of fs) (s.next ∷ []) (h.known j x));
        placed = All-push (Placed s.late) fs f h.placed ((λ z x. o (h.known s.next x)), (λ z. absurd (true≢false z)), (λ z. absurd (true≢false z)));
        calm = h.calm;
        asked = λ z. absurd (true≢false (sym z ∙ none_push fs f));
        queued = h.queued;
        given = omega arith;
      }

  pub modify_kept : (id : ℕ) (p : SubscriptionParameters) (t : Step RevisedSubscription) → cases.ModifyingSubscription s id p t → Published t.state
  modify_kept id p t (cases.unknown e) = h
  modify_kept id p t (cases.modifies f e) =
      published_live s h id f e (modified (revision p) f) refl refl (modified_bounded (revision p) f (revision_bounds p) (live_bounded s h id f e)) s.items s.kept

  pub enable_kept : (id : ℕ) (enabled : Bool) (t : Step (Unit {0})) → cases.SettingPublishing s id enabled t → Published t.state
  enable_kept id enabled t (cases.unknown e) = h
  enable_kept id enabled t (cases.sets f e) =
      published_live s h id f e (publishing enabled f) refl refl (publishing_bounded enabled f (live_bounded s h id f e)) s.items s.kept

  drop_kept : (id : ℕ) (hs : List ℕ) (xs : List Item) (kept : List Kept) → (s.requests ≡ [] → hs ≡ []) → (none (without id_of id s.subscriptions) ≡ true → hs ≡ []) → length hs ≤ 8 →
      Published (record { next = s.next; subscriptions = without id_of id s.subscriptions; items = xs; kept = kept; requests = hs; late = without (λ n. n) id s.late })
  drop_kept id hs xs kept a n few =
      published_without s h id hs (without (λ n. n) id s.late) xs kept (distinct_without id s.late h.once) (λ k x. without_in k id s.late x) (out_without id s.late h.once)
      (λ k ne x. in_without k id s.late ne x) (λ z. ap (without (λ n. n) id) z) a n few

  pub delete_kept : (id room : ℕ) (t : Step ℕ) → cases.DeletingSubscription s id room t → Published t.state
  delete_kept id room t (cases.short r) = h
  delete_kept id room t (cases.unknown e) = h
  delete_kept id room t (cases.last f e n) = drop_kept id [] _ _ (λ z. refl) (λ z. refl) (omega arith)
  delete_kept id room t (cases.one f e n) = drop_kept id s.requests _ _ (λ z. z) (λ z. absurd (true≢false (sym z ∙ n))) h.queued

  pub create_item_kept : (stands : ℕ → Option Standing) (id node mode : ℕ) (p : MonitoringParameters) (t : Step CreatedItem) → cases.CreatingItem stands s id node mode p t → Published t.state
  create_item_kept stands id node mode p t (cases.unknown e) = h
  create_item_kept stands id node mode p t (cases.full e) = h
  create_item_kept stands id node mode p t (cases.used_up u) = h
  create_item_kept stands id node mode p t (cases.no_node e) = h
  create_item_kept stands id node mode p t (cases.bad shown e k c) = h
  create_item_kept stands id node mode p t (cases.adds f shown checks e n l k c) =
      published_beside _ (published_named s h id f e s.items s.kept) (s.next + 1) (omega arith) t.state.items s.kept

  pub modify_item_kept : (id item : ℕ) (p : MonitoringParameters) (t : Step RevisedItem) → cases.ModifyingItem s id item p t → Published t.state
  modify_item_kept id item p t (cases.unknown e) = h
  modify_item_kept id item p t (cases.no_item e) = h
  modify_item_kept id item p t (cases.bad x e i c) = h
  modify_item_kept id item p t (cases.modifies f x filter e i c) = published_named s h id f e t.state.items s.kept

  pub delete_item_kept : (id item : ℕ) (t : Step (Unit {0})) → cases.DeletingItem s id item t → Published t.state
  delete_item_kept id item t (cases.unknown e) = h
  delete_item_kept id item t (cases.no_item e) = h
  delete_item_kept id item t (cases.deletes f x e i) = published_named s h id f e t.state.items s.kept

  pub mode_kept : (id item mode : ℕ) (t : Step (Unit {0})) → cases.SettingMode s id item mode t → Published t.state
  mode_kept id item mode t (cases.unknown e) = h
  mode_kept id item mode t (cases.no_item e) = h
  mode_kept id item mode t (cases.bad e c) = h
  mode_kept id item mode t (cases.sets f x m e i c) = published_named s h id f e t.state.items s.kept

  pub republish_kept : (id n : ℕ) (t : Step Message) → cases.Republishing s id n t → Published t.state
  republish_kept id n t (cases.unknown e) = h
  republish_kept id n t (cases.no_message_lem e) = h
  republish_kept id n t (cases.republishes f m e k) = published_named s h id f e s.items s.kept

pub published_create_subscription : (s : State) (p : SubscriptionParameters) (enabled : Bool) → Published s → Published (create_subscription s p enabled).state
published_create_subscription s p enabled h = create_kept s h p enabled (create_subscription s p enabled) (cases.creating_subscription s p enabled)

pub published_modify_subscription : (s : State) (id : ℕ) (p : SubscriptionParameters) → Published s → Published (modify_subscription s id p).state
published_modify_subscription s id p h = modify_kept s h id p (modify_subscription s id p) (cases.modifying_subscription s id p)

pub published_set_publishing_mode : (s : State) (id : ℕ) (enabled : Bool) → Published s → Published (set_publishing_mode s id enabled).state
published_set_publishing_mode s id enabled h = enable_kept s h id enabled (set_publishing_mode s id enabled) (cases.setting_publishing s id enabled)

pub published_delete_subscription : (s : State) (id room : ℕ) → Published s → Published (delete_subscription s id room).state
published_delete_subscription s id room h = delete_kept s h id room (delete_subscription s id room) (cases.deleting_subscription s id room)

pub published_create_item : (stands : ℕ → Option Standing) (s : State) (id node mode : ℕ) (p : MonitoringParameters) → Published s → Published (create_item stands s id node mode p).state
published_create_item stands s id node mode p h = create_item_kept s h stands id node mode p (create_item stands s id node mode p) (cases.creating_item stands s id node mode p)

pub published_modify_item : (s : State) (id item : ℕ) (p : MonitoringParameters) → Published s → Published (modify_item s id item p).state
published_modify_item s id item p h = modify_item_kept s h id item p (modify_item s id item p) (cases.modifying_item s id item p)

pub published_delete_item : (s : State) (id item : ℕ) → Published s → Published (delete_item s id item).state
published_delete_item s id item h = delete_item_kept s h id item (delete_item s id item) (cases.deleting_item s id item)

pub published_set_monitoring_mode : (s : State) (id item mode : ℕ) → Published s → Published (set_monitoring_mode s id item mode).state
published_set_monitoring_mode s id item mode h = mode_kept s h id item mode (set_monitoring_mode s id item mode) (cases.setting_mode s id item mode)

pub published_republish : (s : State) (id n : ℕ) → Published s → Published (republish s id n).state
published_republish s id n h = republish_kept s h id n (republish s id n) (cases.republishing s id n)

-- the first of the late list has become f' and may have joined its end again
pub published_answered : (s : State) → Published s → (id : ℕ) (f f' : Figures) → first s.late ≡ Some id → lookup id_of id s.subscriptions ≡ Some f → f'.id ≡ f.id → Bounded f' →
    (late : List ℕ) → Distinct late → Within late s.late → ((k : ℕ) → (k ≡ id → ⊥) → In k s.late → In k late) → Placed late f' → (xs : List Item) (kept : List Kept) →
    Published (record { next = s.next; subscriptions = replaced id_of f' s.subscriptions; items = xs; kept = kept; requests = s.requests; late = late })
published_answered s h id f f' l e i b late once fewer others p xs kept =
    let fs = s.subscriptions in
    let ks = keys_replaced id_of f' fs in
    let r = calmed s.late s.requests id l h.calm in
    let same : f'.id ≡ id = i ∙ lookup_key id_of id fs f e in
    record {
      few = let n = length_replaced id_of f' fs in let g = h.few in omega arith;
      rising = rising_replaced id_of 0 f' fs ∙ h.rising;
      below = all_replaced id_of (λ g. g.id < s.next) f' fs h.below (subst (λ n. n < s.next) (sym i) (lookup_all id_of (λ g. g.id < s.next) id fs f h.below e));
      bounded = all_replaced id_of Bounded f' fs h.bounded b;
      once = once;
      known = λ k x. subst (In k) (sym ks) (h.known k (fewer k x));
      placed =
          others_replaced id_of (Placed s.late) (Placed late) f' fs (ids_distinct s h)
          (λ g q n. ((λ z x. q.0 z (fewer g.id x)), (λ z. others g.id (λ w. n (w ∙ sym same)) (q.1 z)), q.2)) h.placed p;
      calm = inr r;
      asked = λ z. r;
      queued = h.queued;
      given = h.given;
    }

module _ (s : State) (h : Published s) where
  front_is : (id : ℕ) (f : Figures) → first s.late ≡ Some id → lookup id_of id s.subscriptions ≡ Some f → first s.late ≡ Some f.id
  front_is id f l e = l ∙ ap Some (sym (lookup_key id_of id s.subscriptions f e))

  front_others : (id : ℕ) → first s.late ≡ Some id → (k : ℕ) → (k ≡ id → ⊥) → In k s.late → In k (rest s.late)
  front_others id l k n x = elim (in_first k id s.late l x) [ inl e ↦ absurd (n (sym e)) | inr y ↦ y ]

  pub published_requesting : (n : ℕ) (t : Step ℕ) → Requesting s n t → Published t.state
  published_requesting n t (nobody e) = h
  published_requesting n t (lost id l e) = h
  published_requesting n t (answered id f l e v m) =
      let c = message_carried n f s.items s.kept in
      let b = lookup_all id_of Bounded id s.subscriptions f h.bounded e in
      let g : Figures = (message n f s.items s.kept).figures in
      published_answered s h id f g l e c.id (c.bounded b) (rest s.late) (distinct_rest s.late h.once) (λ k x. in_rest k s.late x) (front_others id l)
      ((λ z x. first_out f.id s.late h.once (front_is id f l e) (subst (λ k. In k (rest s.late)) c.id x)), (λ z. absurd (true≢false (sym (ap prompt c.phase) ∙ z))), spent_live g (ap live c.phase))
      _ _
  published_requesting n t (again id f l e v m) =
      let c = message_carried n f s.items s.kept in
      let b = lookup_all id_of Bounded id s.subscriptions f h.bounded e in
      let g : Figures = (message n f s.items s.kept).figures in
      let front = front_is id f l e in
      let late = rest s.late in
      published_answered s h id f (joined g) l e c.id (joined_bounded g (c.bounded b)) (late ++ g.id ∷ [])
      (distinct_push late g.id (distinct_rest s.late h.once) (λ x. first_out f.id s.late h.once front (subst (λ k. In k late) c.id x)))
      (λ k x. elim (in_push k g.id late x) [ inl a ↦ in_rest k s.late a | inr q ↦ subst (λ j. In j s.late) (sym c.id ∙ q) (first_in f.id s.late front) ])
      (λ k o x. in_left k late (g.id ∷ []) (front_others id l k o x))
      ((λ z. absurd (true≢false (sym z ∙ joined_prompt g))), (λ z. in_last g.id late), spent_live (joined g) (joined_live g ∙ ap live c.phase))
      _ _
  published_requesting n t (ended id f l e v) =
      let r = calmed s.late s.requests id l h.calm in
      let i = lookup_key id_of id s.subscriptions f e in
      published_without s h f.id s.requests (rest s.late) s.items s.kept (distinct_rest s.late h.once) (λ k x. in_rest k s.late x)
      (first_out f.id s.late h.once (front_is id f l e)) (front_others f.id (front_is id f l e)) (λ z. ap rest z) (λ z. z) (λ z. r) h.queued
  published_requesting n t (queued o l r) =
      record {
        few = h.few;
        rising = h.rising;
        below = h.below;
        bounded = h.bounded;
        once = h.once;
        known = h.known;
        placed = h.placed;
        calm = inl (first_none s.late l);
        asked = λ z. absurd (true≢false (sym z ∙ o));
        queued = let p = length_push s.requests n in let q = h.queued in omega (arith, r);
        given = h.given;
      }
  published_requesting n t (crowds oldest o l r e) =
      record {
        few = h.few;
        rising = h.rising;
        below = h.below;
        bounded = h.bounded;
        once = h.once;
        known = h.known;
        placed = h.placed;
        calm = inl (first_none s.late l);
        asked = λ z. absurd (true≢false (sym z ∙ o));
        queued = let p = length_push (rest s.requests) n in let q = shorter s.requests oldest e in omega arith;
        given = h.given;
      }
    where
      shorter : (hs : List ℕ) (x : ℕ) → first hs ≡ Some x → suc (length (rest hs)) ≡ length hs
      shorter [] x e = absurd (none_some e)
      shorter (y ∷ hs) x e = refl

-- an acknowledgement names its subscription
pub published_acknowledged : (s : State) → Published s → (a : Acknowledgement) →
    Published (record { next = s.next; subscriptions = (acknowledged a s.subscriptions s.kept).subscriptions; items = s.items; kept = (acknowledged a s.subscriptions s.kept).kept; requests = s.requests; late = s.late })
published_acknowledged s h a = at (live_in a.subscription s.subscriptions) refl
  where
    at : (o : Option Figures) → live_in a.subscription s.subscriptions ≡ o →
        Published (record { next = s.next; subscriptions = (acknowledged_by o a s.subscriptions s.kept).subscriptions; items = s.items; kept = (acknowledged_by o a s.subscriptions s.kept).kept; requests = s.requests; late = s.late })
    at None e = h
    at (Some f) e = published_named s h a.subscription f e s.items _

pub published_all_acknowledged : (acks : List Acknowledgement) (s : State) → Published s → Published (acknowledged_state s acks)
published_all_acknowledged [] s h = h
published_all_acknowledged (a ∷ acks) s h =
    published_all_acknowledged acks
    (record { next = s.next; subscriptions = (acknowledged a s.subscriptions s.kept).subscriptions; items = s.items; kept = (acknowledged a s.subscriptions s.kept).kept; requests = s.requests; late = s.late })
    (published_acknowledged s h a)

pub published_publishing : (s : State) → Published s → (n : ℕ) (acks : List Acknowledgement) (room places : ℕ) (t : Step ℕ) → cases.Publishing s n acks room places t → Published t.state
published_publishing s h n acks room places t (cases.short r) = h
published_publishing s h n acks room places t (cases.short_results r) = h
published_publishing s h n acks room places t (cases.many m) = h
published_publishing s h n acks room places t (cases.accepted u m r) = published_requesting (acknowledged_state s acks) (published_all_acknowledged acks s h) n u r

pub published_publish : (s : State) (handle : ℕ) (acks : List Acknowledgement) (room places : ℕ) → Published s → Published (publish s handle acks room places).state
published_publish s handle acks room places h = published_publishing s h handle acks room places (publish s handle acks room places) (cases.publishing_call s handle acks room places)

-- the turns of a tick
pub state_passed : (stands : ℕ → Option Standing) (s : State) → Published s → AllPassed s.subscriptions s.requests s.late (passed (sampled_state stands s))
state_passed stands s h = all_passed s.subscriptions (shared_of (sampled_state stands s)) (ids_distinct s h) h.bounded h.once h.placed h.calm

pub published_passed : (s : State) → Published s → (p : Pass) → AllPassed s.subscriptions s.requests s.late p → Published (leaves s p)
published_passed s h p r =
    let fs = s.subscriptions in
    record {
      few = let n = same_length id_of p.subscriptions fs r.ids in let g = h.few in omega arith;
      rising = rising_keys id_of 0 p.subscriptions ∙ ap (rising_by (λ n. n) 0) r.ids ∙ sym (rising_keys id_of 0 fs) ∙ h.rising;
      below = all_keys id_of (λ k. k < s.next) p.subscriptions (subst (AllByRecursion (λ k. k < s.next)) (sym r.ids) (All-map (λ k. k < s.next) id_of fs h.below));
      bounded = r.bounded;
      once = r.once;
      known = λ k x. subst (In k) (sym r.ids) (elim (in_cases k s.late r.more (subst (In k) r.grown x)) [ inl a ↦ h.known k a | inr b ↦ r.from k b ]);
      placed = r.placed;
      calm = r.calm;
      asked = λ z. tail_empty (map handle_of p.responses) p.shared.requests (r.handles ∙ h.asked (sym (none_keys id_of p.subscriptions fs r.ids) ∙ z));
      queued = let l = length-append (map handle_of p.responses) p.shared.requests in let n = ap length r.handles in let q = h.queued in omega arith;
      given = h.given;
    }

pub published_ticking : (stands : ℕ → Option Standing) (s : State) → Published s → (room : ℕ) (t : Step ℕ) → cases.Ticking stands s room t → Published t.state
published_ticking stands s h room t (cases.short r) = h
published_ticking stands s h room t cases.passes_all_lem = published_passed s h (passed (sampled_state stands s)) (state_passed stands s h)

pub published_tick : (stands : ℕ → Option Standing) (s : State) (room : ℕ) → Published s → Published (tick stands s room).state
published_tick stands s room h = published_ticking stands s h room (tick stands s room) (cases.ticking stands s room)
