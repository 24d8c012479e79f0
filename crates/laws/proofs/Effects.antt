-- What each call does to the requests and to the late list.
use Rattle.std.proofs.Common.{◌≡◌, ℕ, Bool, true, false, List, [], ◌∷◌, ◌++◌, map, sym, refl, ap, ◌∙◌, inl, Option}
use Rattle.std.proofs.lemmas.List.{append-nil}
use Rattle.std.proofs.lemmas.Bool.{true≢false}
use Rattle.fifo.specs.Lists.{none, rest}
use Rattle.sources.specs.declared.source.Standing.{Standing}
use Rattle.subscriptions.specs.declared.figures.Figures.{Figures}
use Rattle.subscriptions.specs.Keys.{id_of}
use Rattle.items.specs.declared.item.Mode.{Mode}
use Rattle.items.specs.declared.item.Mode.TheVariants.{Disabled, Sampling, Reporting}
use Rattle.items.specs.Keys.{id_of as item_id}
use Rattle.messages.specs.declared.message.Message.{Message}
use Rattle.messages.specs.declared.response.ResponseKind.TheVariants.{NoSubscription}
use Rattle.messages.specs.Responses.{refusing}
use Rattle.answers.specs.declared.acknowledgement.Acknowledgement.{Acknowledgement}
use Rattle.subscriptions.specs.declared.parameters.SubscriptionParameters.{SubscriptionParameters}
use Rattle.subscriptions.specs.declared.parameters.RevisedSubscription.{RevisedSubscription}
use Rattle.model.specs.declared.revised.CreatedSubscription.{CreatedSubscription}
use Rattle.model.specs.declared.revised.RevisedItem.{RevisedItem}
use Rattle.model.specs.declared.revised.CreatedItem.{CreatedItem}
use Rattle.model.specs.declared.parameters.MonitoringParameters.{MonitoringParameters}
use Rattle.model.specs.State.{State}
use Rattle.model.specs.Steps.{Joined, Step}
use Rattle.model.specs.Subscribing.{create_subscription, modify_subscription, set_publishing_mode, delete_subscription}
use Rattle.model.specs.Monitoring.{create_item, modify_item, delete_item, starting, set_monitoring_mode}
use Rattle.model.specs.Messages.{message}
use Rattle.model.specs.Publish.{publish}
use Rattle.model.specs.Republish.{republish}
use Rattle.model.specs.Tick.{samplings, sampled_state, shared_of, passed, tick}
use Rattle.model.specs.Sound.{In, Within, Published, Sound}
use Rattle.soundness.proofs.Members.{first_none, first_rest}
use Rattle.soundness.proofs.Cases.{Requesting, nobody, lost, answered, again, ended, queued, crowds, acknowledged_state}
use Rattle.soundness.proofs.Cases as cases
use Rattle.soundness.proofs.Turns.{message_carried}
use Rattle.soundness.proofs.Published.{calmed, never_lost, published_all_acknowledged, state_passed}
use Rattle.laws.specs.Runs.{Call, CreateSubscription, ModifySubscription, SetPublishingMode, DeleteSubscription, CreateItem, ModifyItem, DeleteItem, SetMonitoringMode, Publish, Republish, Tick, Scene, Done, done, done_by, called, handle_if}
use Rattle.laws.specs.Laws.{handle_of, joined_ids, staying}
use Rattle.laws.proofs.Joins.{none_joined_before, message_joins_none, samplings_join_none, all_grow}

-- the handles answered, then the requests left, are the requests before, then the handle of an accepted Publish; the late list
-- is what stays of it, then those who joined
pub record Effect (s : State) (c : Call) (d : Done) : Type 0 where
  pub handles : map handle_of d.responses ++ d.state.requests ≡ s.requests ++ handle_if d.accepted c
  pub late : d.state.late ≡ staying d.accepted c s.late ++ joined_ids d.events

-- a list that holds only ids of no subscription
nobody_late : (late : List ℕ) (fs : List Figures) → Within late (map id_of fs) → none fs ≡ true → late ≡ []
nobody_late [] fs w e = refl
nobody_late (k ∷ late) fs w e = absurd (empty fs e (w k (inl refl)))
  where
    empty : (gs : List Figures) → none gs ≡ true → In k (map id_of gs) → ⊥
    empty [] e h = h
    empty (g ∷ gs) e h = true≢false (sym e)

-- one request alone
alone : (h : ℕ) (hs : List ℕ) → hs ≡ [] → h ∷ hs ≡ hs ++ h ∷ []
alone h hs e = ap (λ l. h ∷ l) e ∙ ap (λ l. l ++ h ∷ []) (sym e)

refusing_handles : (hs : List ℕ) → map handle_of (map (refusing NoSubscription) hs) ≡ hs
refusing_handles [] = refl
refusing_handles (h ∷ hs) = ap (λ l. h ∷ l) (refusing_handles hs)

starting_joins_none : (m n : Mode) (id : ℕ) → joined_ids (starting m n id) ≡ []
starting_joins_none Disabled Disabled id = refl
starting_joins_none Disabled Sampling id = refl
starting_joins_none Disabled Reporting id = refl
starting_joins_none Sampling n id = refl
starting_joins_none Reporting n id = refl

module _ (s : State) where
  -- requests and late list as they were
  unchanged : (s.requests ≡ s.requests ++ []) × (s.late ≡ s.late ++ [])
  unchanged = (sym (append-nil s.requests), sym (append-nil s.late))

  refuses : (c : Call) → Effect s c (record { state = s; accepted = false; responses = []; events = [] })
  refuses c = record { handles = unchanged.0; late = unchanged.1 }

  create_effect : (p : SubscriptionParameters) (enabled : Bool) (t : Step CreatedSubscription) → cases.CreatingSubscription s p enabled t → Effect s (CreateSubscription p enabled) (done t)
  create_effect p enabled t (cases.full e) = refuses _
  create_effect p enabled t (cases.used_up u) = refuses _
  create_effect p enabled t (cases.made n u) = record { handles = unchanged.0; late = unchanged.1 }

  modify_effect : (id : ℕ) (p : SubscriptionParameters) (t : Step RevisedSubscription) → cases.ModifyingSubscription s id p t → Effect s (ModifySubscription id p) (done t)
  modify_effect id p t (cases.unknown e) = refuses _
  modify_effect id p t (cases.modifies f e) = record { handles = unchanged.0; late = unchanged.1 }

  enable_effect : (id : ℕ) (enabled : Bool) (t : Step (Unit {0})) → cases.SettingPublishing s id enabled t → Effect s (SetPublishingMode id enabled) (done t)
  enable_effect id enabled t (cases.unknown e) = refuses _
  enable_effect id enabled t (cases.sets f e) = record { handles = unchanged.0; late = unchanged.1 }

  delete_effect : (id room : ℕ) (t : Step ℕ) → cases.DeletingSubscription s id room t → Effect s (DeleteSubscription id room) (done t)
  delete_effect id room t (cases.short r) = refuses _
  delete_effect id room t (cases.unknown e) = refuses _
  delete_effect id room t (cases.last f e n) = record { handles = ap (λ l. l ++ []) (refusing_handles s.requests); late = sym (append-nil t.state.late) }
  delete_effect id room t (cases.one f e n) = record { handles = unchanged.0; late = sym (append-nil t.state.late) }

  create_item_effect : (stands : ℕ → Option Standing) (id node mode : ℕ) (p : MonitoringParameters) (t : Step CreatedItem) → cases.CreatingItem stands s id node mode p t → Effect s (CreateItem id node mode p) (done t)
  create_item_effect stands id node mode p t (cases.unknown e) = refuses _
  create_item_effect stands id node mode p t (cases.full e) = refuses _
  create_item_effect stands id node mode p t (cases.used_up u) = refuses _
  create_item_effect stands id node mode p t (cases.no_node e) = refuses _
  create_item_effect stands id node mode p t (cases.bad shown e k c) = refuses _
  create_item_effect stands id node mode p t (cases.adds f shown checks e n l k c) = record { handles = unchanged.0; late = unchanged.1 }

  modify_item_effect : (id item : ℕ) (p : MonitoringParameters) (t : Step RevisedItem) → cases.ModifyingItem s id item p t → Effect s (ModifyItem id item p) (done t)
  modify_item_effect id item p t (cases.unknown e) = refuses _
  modify_item_effect id item p t (cases.no_item e) = refuses _
  modify_item_effect id item p t (cases.bad x e i c) = refuses _
  modify_item_effect id item p t (cases.modifies f x filter e i c) = record { handles = unchanged.0; late = unchanged.1 }

  delete_item_effect : (id item : ℕ) (t : Step (Unit {0})) → cases.DeletingItem s id item t → Effect s (DeleteItem id item) (done t)
  delete_item_effect id item t (cases.unknown e) = refuses _
  delete_item_effect id item t (cases.no_item e) = refuses _
  delete_item_effect id item t (cases.deletes f x e i) = record { handles = unchanged.0; late = unchanged.1 }

  mode_effect : (id item mode : ℕ) (t : Step (Unit {0})) → cases.SettingMode s id item mode t → Effect s (SetMonitoringMode id item mode) (done t)
  mode_effect id item mode t (cases.unknown e) = refuses _
  mode_effect id item mode t (cases.no_item e) = refuses _
  mode_effect id item mode t (cases.bad e c) = refuses _
  mode_effect id item mode t (cases.sets f x m e i c) =
      record { handles = unchanged.0; late = unchanged.1 ∙ ap (λ l. s.late ++ l) (sym (starting_joins_none x.mode m (item_id x))) }

  republish_effect : (id n : ℕ) (t : Step Message) → cases.Republishing s id n t → Effect s (Republish id n) (done t)
  republish_effect id n t (cases.unknown e) = refuses _
  republish_effect id n t (cases.no_message_lem e) = refuses _
  republish_effect id n t (cases.republishes f m e k) = record { handles = unchanged.0; late = unchanged.1 }

  tick_effect : Published s → (stands : ℕ → Option Standing) (room : ℕ) (t : Step ℕ) → cases.Ticking stands s room t → Effect s (Tick room) (done t)
  tick_effect p stands room t (cases.short r) = refuses _
  tick_effect p stands room t cases.passes_all_lem =
      let q = passed (sampled_state stands s) in
      record {
        handles = (state_passed stands s p).handles ∙ unchanged.0;
        late =
            all_grow s.subscriptions (shared_of (sampled_state stands s))
            ∙ ap (λ l. s.late ++ l) (sym (none_joined_before (samplings stands s.items) q.events (samplings_join_none stands s.items)));
      }

-- a request, with the state as it is after the acknowledgements
requested_effect : (s : State) → Published s → (h : ℕ) (acks : List Acknowledgement) (room places : ℕ) (t : Step ℕ) → Requesting s h t → Effect s (Publish h acks room places) (done t)
requested_effect s p h acks room places t (nobody e) =
    let z = nobody_late s.late s.subscriptions p.known e in
    record { handles = alone h s.requests (p.asked e); late = z ∙ ap (λ l. rest l ++ []) (sym z) }
requested_effect s p h acks room places t (lost id l e) = absurd (never_lost s p id l e)
requested_effect s p h acks room places t (answered id f l e v m) =
    let c = message_carried h f s.items s.kept in
    record {
      handles = ap (λ n. n ∷ s.requests) c.handle ∙ alone h s.requests (calmed s.late s.requests id l p.calm);
      late = sym (append-nil (rest s.late)) ∙ ap (λ l. rest s.late ++ l) (sym (message_joins_none h f s.items s.kept));
    }
requested_effect s p h acks room places t (again id f l e v m) =
    let c = message_carried h f s.items s.kept in
    let n = message h f s.items s.kept in
    record {
      handles = ap (λ n. n ∷ s.requests) c.handle ∙ alone h s.requests (calmed s.late s.requests id l p.calm);
      late = ap (λ l. rest s.late ++ l) (sym (none_joined_before n.events (Joined n.figures.id ∷ []) (message_joins_none h f s.items s.kept)));
    }
requested_effect s p h acks room places t (ended id f l e v) =
    record { handles = alone h s.requests (calmed s.late s.requests id l p.calm); late = sym (append-nil (rest s.late)) }
requested_effect s p h acks room places t (queued n l r) =
    let z = first_none s.late l in
    record { handles = refl; late = z ∙ ap (λ l. rest l ++ []) (sym z) }
requested_effect s p h acks room places t (crowds oldest n l r e) =
    let z = first_none s.late l in
    record { handles = ap (λ x. x ++ h ∷ []) (first_rest s.requests oldest e); late = z ∙ ap (λ l. rest l ++ []) (sym z) }

publish_effect : (s : State) → Published s → (h : ℕ) (acks : List Acknowledgement) (room places : ℕ) (t : Step ℕ) → cases.Publishing s h acks room places t → Effect s (Publish h acks room places) (done t)
publish_effect s p h acks room places t (cases.short r) = refuses s _
publish_effect s p h acks room places t (cases.short_results r) = refuses s _
publish_effect s p h acks room places t (cases.many m) = refuses s _
publish_effect s p h acks room places t (cases.accepted u m r) =
    let e = requested_effect (acknowledged_state s acks) (published_all_acknowledged acks s p) h acks room places u r in
    record { handles = e.handles; late = e.late }

done_effect : (stands : ℕ → Option Standing) (s : State) → Sound s → (c : Call) → Effect s c (done_by stands s c)
done_effect stands s h (CreateSubscription p enabled) = create_effect s p enabled (create_subscription s p enabled) (cases.creating_subscription s p enabled)
done_effect stands s h (ModifySubscription id p) = modify_effect s id p (modify_subscription s id p) (cases.modifying_subscription s id p)
done_effect stands s h (SetPublishingMode id enabled) = enable_effect s id enabled (set_publishing_mode s id enabled) (cases.setting_publishing s id enabled)
done_effect stands s h (DeleteSubscription id room) = delete_effect s id room (delete_subscription s id room) (cases.deleting_subscription s id room)
done_effect stands s h (CreateItem id node mode p) = create_item_effect s stands id node mode p (create_item stands s id node mode p) (cases.creating_item stands s id node mode p)
done_effect stands s h (ModifyItem id item p) = modify_item_effect s id item p (modify_item s id item p) (cases.modifying_item s id item p)
done_effect stands s h (DeleteItem id item) = delete_item_effect s id item (delete_item s id item) (cases.deleting_item s id item)
done_effect stands s h (SetMonitoringMode id item mode) = mode_effect s id item mode (set_monitoring_mode s id item mode) (cases.setting_mode s id item mode)
done_effect stands s h (Publish handle acks room places) = publish_effect s h.published handle acks room places (publish s handle acks room places) (cases.publishing_call s handle acks room places)
done_effect stands s h (Republish id n) = republish_effect s id n (republish s id n) (cases.republishing s id n)
done_effect stands s h (Tick room) = tick_effect s h.published stands room (tick stands s room) (cases.ticking stands s room)

pub effect : (s : State) → Sound s → (c : Scene) → Effect s c.call (called s c)
effect s h c = done_effect c.stands s h c.call
