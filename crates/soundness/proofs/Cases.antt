-- Each call by its cases.
use Rattle.std.proofs.Common.{◌≡◌, ℕ, ◌<◌, ◌≤◌, Bool, true, false, cond, eqb, ltb, List, [], ◌∷◌, length, Some, None, Ok, Err, Option, Result, sym, refl, ap, ◌∙◌, arith}
use Rattle.std.proofs.lemmas.Bool.{eqb-true, eqb-false, ltb-true, ltb-false}
use Rattle.fifo.specs.Lists.{none, first, lookup, replaced, without}
use Rattle.values.specs.declared.checked.CheckedFilter.{CheckedFilter}
use Rattle.values.specs.Check.{checked}
use Rattle.sources.specs.declared.source.Standing.{Standing}
use Rattle.subscriptions.specs.declared.figures.Figures.{Figures}
use Rattle.subscriptions.specs.Facts.{live}
use Rattle.subscriptions.specs.Keys.{id_of}
use Rattle.subscriptions.specs.Changes.{created, modified, publishing, named}
use Rattle.subscriptions.specs.Revision.{revision, answer_of}
use Rattle.items.specs.declared.item.Mode.{Mode}
use Rattle.items.specs.declared.fault.ItemFault.{ItemFault}
use Rattle.items.specs.declared.fault.ItemFault.TheVariants.{MonitoredItemIdInvalid}
use Rattle.items.specs.Faults.{checked_item, checked_mode, mode_of}
use Rattle.items.specs.Item.{Item, moded}
use Rattle.items.specs.Item.{modified as modified_item}
use Rattle.items.specs.Keys.{id_of as item_id}
use Rattle.items.specs.Queue.{queue_size_of}
use Rattle.item_table.specs.Table.{item_in}
use Rattle.messages.specs.declared.message.Message.{Message}
use Rattle.messages.specs.declared.response.ResponseKind.TheVariants.{NoSubscription}
use Rattle.messages.specs.Messages.{number_of}
use Rattle.messages.specs.Responses.{refusing}
use Rattle.retransmission.specs.Rows.{kept_of}
use Rattle.answers.specs.declared.fault.ServiceFault.TheVariants.{MessageNotAvailable, ListTooShort, TooManySubscriptions, TooManyMonitoredItems, IdsUsedUp, NodeIdUnknown, SubscriptionIdInvalid, TooManyOperations}
use Rattle.answers.specs.declared.fault.ServiceFault.TheVariants as fault
use Rattle.answers.specs.declared.acknowledgement.Acknowledgement.{Acknowledgement}
use Rattle.subscriptions.specs.declared.parameters.SubscriptionParameters.{SubscriptionParameters}
use Rattle.subscriptions.specs.declared.parameters.RevisedSubscription.{RevisedSubscription}
use Rattle.model.specs.declared.revised.CreatedSubscription.{CreatedSubscription}
use Rattle.model.specs.declared.revised.RevisedItem.{RevisedItem}
use Rattle.model.specs.declared.revised.CreatedItem.{CreatedItem}
use Rattle.model.specs.declared.parameters.MonitoringParameters.{MonitoringParameters}
use Rattle.model.specs.State.{State, live_in, only_live, with_subscriptions, with_items}
use Rattle.model.specs.Steps.{Step, refused, answers, sends, for_live, for_item, for_checked}
use Rattle.model.specs.Subscribing.{creates, create_subscription, modify_subscription, set_publishing_mode, dropped, emptied, delete_subscription}
use Rattle.model.specs.Monitoring.{settings_of, naming, for_known, adding, new_item, create_item, of_item, replacing, modifying, modify_item, delete_item, starting, set_monitoring_mode}
use Rattle.model.specs.Messages.{message}
use Rattle.model.specs.Publish.{all_acknowledged, answers_late, answers_ended, answers_by, answers_first, queues_after, by_late, requested, after_acknowledging, with_results, accepts, publish}
use Rattle.model.specs.Republish.{for_message, republish}
use Rattle.model.specs.Tick.{sampled_state, samplings, passed, ticked_by, tick}
use Rattle.soundness.proofs.Members.{none_some}

-- a live subscription stands in the list with its id, and is live
pub live_found : (id : ℕ) (fs : List Figures) (f : Figures) → live_in id fs ≡ Some f → (lookup id_of id fs ≡ Some f) × (live f.phase ≡ true)
live_found id fs f e = at (lookup id_of id fs) e
  where
    lives : (b : Bool) (g : Figures) → live g.phase ≡ b → cond b (Some g) None ≡ Some f → (Some g ≡ Some f) × (live f.phase ≡ true)
    lives true g l e = let q : g ≡ f = cc in (e, ap (λ h. live h.phase) (sym q) ∙ l)
    lives false g l e = absurd (none_some e)

    at : (o : Option Figures) → only_live o ≡ Some f → (o ≡ Some f) × (live f.phase ≡ true)
    at None e = absurd (none_some e)
    at (Some g) e = lives (live g.phase) g refl e

pub data CreatingSubscription (s : State) (p : SubscriptionParameters) (enabled : Bool) : Step CreatedSubscription → Type 0 where
  full : length s.subscriptions ≡ 4 → CreatingSubscription s p enabled (refused s TooManySubscriptions)
  used_up : 4294967295 < s.next → CreatingSubscription s p enabled (refused s IdsUsedUp)
  made : (length s.subscriptions ≡ 4 → ⊥) → s.next ≤ 4294967295 → CreatingSubscription s p enabled (creates s (created s.next (revision p) enabled))

pub creating_subscription : (s : State) (p : SubscriptionParameters) (enabled : Bool) → CreatingSubscription s p enabled (create_subscription s p enabled)
creating_subscription s p enabled = at (eqb (length s.subscriptions) 4) refl
  where
    step : Step CreatedSubscription
    step = creates s (created s.next (revision p) enabled)

    given : (b : Bool) → ltb 4294967295 s.next ≡ b → (length s.subscriptions ≡ 4 → ⊥) → CreatingSubscription s p enabled (cond b (refused s IdsUsedUp) step)
    given true e n = used_up (ltb-true 4294967295 s.next e)
    given false e n = made n (ltb-false 4294967295 s.next e)

    at : (b : Bool) → eqb (length s.subscriptions) 4 ≡ b → CreatingSubscription s p enabled (cond b (refused s TooManySubscriptions) (cond (ltb 4294967295 s.next) (refused s IdsUsedUp) step))
    at true e = full (eqb-true (length s.subscriptions) 4 e)
    at false e = given (ltb 4294967295 s.next) refl (eqb-false (length s.subscriptions) 4 e)

pub data ModifyingSubscription (s : State) (id : ℕ) (p : SubscriptionParameters) : Step RevisedSubscription → Type 0 where
  unknown : live_in id s.subscriptions ≡ None → ModifyingSubscription s id p (refused s (SubscriptionIdInvalid id))
  modifies : (f : Figures) → live_in id s.subscriptions ≡ Some f →
      ModifyingSubscription s id p (answers (with_subscriptions s (replaced id_of (modified (revision p) f) s.subscriptions)) (answer_of (revision p)) [])

pub modifying_subscription : (s : State) (id : ℕ) (p : SubscriptionParameters) → ModifyingSubscription s id p (modify_subscription s id p)
modifying_subscription s id p = at (live_in id s.subscriptions) refl
  where
    at : (o : Option Figures) → live_in id s.subscriptions ≡ o →
        ModifyingSubscription s id p (for_live o s id (λ f. answers (with_subscriptions s (replaced id_of (modified (revision p) f) s.subscriptions)) (answer_of (revision p)) []))
    at None e = unknown e
    at (Some f) e = modifies f e

pub data SettingPublishing (s : State) (id : ℕ) (enabled : Bool) : Step (Unit {0}) → Type 0 where
  unknown : live_in id s.subscriptions ≡ None → SettingPublishing s id enabled (refused s (SubscriptionIdInvalid id))
  sets : (f : Figures) → live_in id s.subscriptions ≡ Some f →
      SettingPublishing s id enabled (answers (with_subscriptions s (replaced id_of (publishing enabled f) s.subscriptions)) tt [])

pub setting_publishing : (s : State) (id : ℕ) (enabled : Bool) → SettingPublishing s id enabled (set_publishing_mode s id enabled)
setting_publishing s id enabled = at (live_in id s.subscriptions) refl
  where
    at : (o : Option Figures) → live_in id s.subscriptions ≡ o →
        SettingPublishing s id enabled (for_live o s id (λ f. answers (with_subscriptions s (replaced id_of (publishing enabled f) s.subscriptions)) tt []))
    at None e = unknown e
    at (Some f) e = sets f e

pub data DeletingSubscription (s : State) (id room : ℕ) : Step ℕ → Type 0 where
  short : room < 8 → DeletingSubscription s id room (refused s ListTooShort)
  unknown : live_in id s.subscriptions ≡ None → DeletingSubscription s id room (refused s (SubscriptionIdInvalid id))
  last : (f : Figures) → live_in id s.subscriptions ≡ Some f → none (without id_of id s.subscriptions) ≡ true → DeletingSubscription s id room (emptied true (dropped s id))
  one : (f : Figures) → live_in id s.subscriptions ≡ Some f → none (without id_of id s.subscriptions) ≡ false → DeletingSubscription s id room (emptied false (dropped s id))

pub deleting_subscription : (s : State) (id room : ℕ) → DeletingSubscription s id room (delete_subscription s id room)
deleting_subscription s id room = at (ltb room 8) refl
  where
    left : (b : Bool) (f : Figures) → live_in id s.subscriptions ≡ Some f → none (without id_of id s.subscriptions) ≡ b → DeletingSubscription s id room (emptied b (dropped s id))
    left true f e n = last f e n
    left false f e n = one f e n

    found : (o : Option Figures) → live_in id s.subscriptions ≡ o → DeletingSubscription s id room (for_live o s id (λ f. emptied (none (without id_of id s.subscriptions)) (dropped s id)))
    found None e = unknown e
    found (Some f) e = left (none (without id_of id s.subscriptions)) f e refl

    at : (b : Bool) → ltb room 8 ≡ b → DeletingSubscription s id room (cond b (refused s ListTooShort) (for_live (live_in id s.subscriptions) s id (λ f. emptied (none (without id_of id s.subscriptions)) (dropped s id))))
    at true r = short (ltb-true room 8 r)
    at false r = found (live_in id s.subscriptions) refl

pub data CreatingItem (stands : ℕ → Option Standing) (s : State) (id node mode : ℕ) (p : MonitoringParameters) : Step CreatedItem → Type 0 where
  unknown : live_in id s.subscriptions ≡ None → CreatingItem stands s id node mode p (refused s (SubscriptionIdInvalid id))
  full : length s.items ≡ 32 → CreatingItem stands s id node mode p (refused s TooManyMonitoredItems)
  used_up : 4294967295 < s.next → CreatingItem stands s id node mode p (refused s IdsUsedUp)
  no_node : stands node ≡ None → CreatingItem stands s id node mode p (refused s (NodeIdUnknown node))
  bad : (shown : Standing) (e : ItemFault) → stands node ≡ Some shown → checked_item mode p.filter shown.kind node ≡ Err e → CreatingItem stands s id node mode p (refused s (fault.Item e))
  adds : (f : Figures) (shown : Standing) (checks : Mode × CheckedFilter) →
      live_in id s.subscriptions ≡ Some f → (length s.items ≡ 32 → ⊥) → s.next ≤ 4294967295 → stands node ≡ Some shown → checked_item mode p.filter shown.kind node ≡ Ok checks →
      CreatingItem stands s id node mode p (adding s f (new_item s f id node p shown.kind checks))

module _ (stands : ℕ → Option Standing) (s : State) (id node mode : ℕ) (p : MonitoringParameters) where
  pub creating_item : CreatingItem stands s id node mode p (create_item stands s id node mode p)
  creating_item = found (live_in id s.subscriptions) refl
    where
      check : (f : Figures) (shown : Standing) → live_in id s.subscriptions ≡ Some f → (length s.items ≡ 32 → ⊥) → s.next ≤ 4294967295 → stands node ≡ Some shown →
          (r : Result (Mode × CheckedFilter) ItemFault) → checked_item mode p.filter shown.kind node ≡ r → CreatingItem stands s id node mode p (for_checked r s (λ checks. adding s f (new_item s f id node p shown.kind checks)))
      check f shown e n l k (Err x) c = bad shown x k c
      check f shown e n l k (Ok checks) c = adds f shown checks e n l k c

      known : (f : Figures) → live_in id s.subscriptions ≡ Some f → (length s.items ≡ 32 → ⊥) → s.next ≤ 4294967295 → (t : Option Standing) → stands node ≡ t →
          CreatingItem stands s id node mode p (for_known t s node (λ kind. for_checked (checked_item mode p.filter kind node) s (λ checks. adding s f (new_item s f id node p kind checks))))
      known f e n l None k = no_node k
      known f e n l (Some shown) k = check f shown e n l k (checked_item mode p.filter shown.kind node) refl

      given : (f : Figures) → live_in id s.subscriptions ≡ Some f → (length s.items ≡ 32 → ⊥) → (b : Bool) → ltb 4294967295 s.next ≡ b →
          CreatingItem stands s id node mode p (cond b (refused s IdsUsedUp)
          (for_known (stands node) s node (λ kind. for_checked (checked_item mode p.filter kind node) s (λ checks. adding s f (new_item s f id node p kind checks)))))
      given f e n true l = used_up (ltb-true 4294967295 s.next l)
      given f e n false l = known f e n (ltb-false 4294967295 s.next l) (stands node) refl

      room : (f : Figures) → live_in id s.subscriptions ≡ Some f → (b : Bool) → eqb (length s.items) 32 ≡ b →
          CreatingItem stands s id node mode p (cond b (refused s TooManyMonitoredItems) (cond (ltb 4294967295 s.next) (refused s IdsUsedUp)
          (for_known (stands node) s node (λ kind. for_checked (checked_item mode p.filter kind node) s (λ checks. adding s f (new_item s f id node p kind checks))))))
      room f e true n = full (eqb-true (length s.items) 32 n)
      room f e false n = given f e (eqb-false (length s.items) 32 n) (ltb 4294967295 s.next) refl

      found : (o : Option Figures) → live_in id s.subscriptions ≡ o →
          CreatingItem stands s id node mode p (for_live o s id (λ f. cond (eqb (length s.items) 32) (refused s TooManyMonitoredItems) (cond (ltb 4294967295 s.next) (refused s IdsUsedUp)
          (for_known (stands node) s node (λ kind. for_checked (checked_item mode p.filter kind node) s (λ checks. adding s f (new_item s f id node p kind checks)))))))
      found None e = unknown e
      found (Some f) e = room f e (eqb (length s.items) 32) refl

pub data ModifyingItem (s : State) (id item : ℕ) (p : MonitoringParameters) : Step RevisedItem → Type 0 where
  unknown : live_in id s.subscriptions ≡ None → ModifyingItem s id item p (refused s (SubscriptionIdInvalid id))
  no_item : item_in id item s.items ≡ None → ModifyingItem s id item p (refused s (fault.Item (MonitoredItemIdInvalid item)))
  bad : (x : Item) (e : ItemFault) → item_in id item s.items ≡ Some x → of_item (checked p.filter x.identity.kind item) ≡ Err e → ModifyingItem s id item p (refused s (fault.Item e))
  modifies : (f : Figures) (x : Item) (filter : CheckedFilter) → live_in id s.subscriptions ≡ Some f → item_in id item s.items ≡ Some x → of_item (checked p.filter x.identity.kind item) ≡ Ok filter →
      ModifyingItem s id item p (modifying s f (modified_item x (settings_of p filter f) (queue_size_of p.queue_size)))

pub modifying_item : (s : State) (id item : ℕ) (p : MonitoringParameters) → ModifyingItem s id item p (modify_item s id item p)
modifying_item s id item p = at (live_in id s.subscriptions) refl
  where
    check : (f : Figures) (x : Item) → live_in id s.subscriptions ≡ Some f → item_in id item s.items ≡ Some x →
        (r : Result CheckedFilter ItemFault) → of_item (checked p.filter x.identity.kind item) ≡ r →
        ModifyingItem s id item p (for_checked r s (λ filter. modifying s f (modified_item x (settings_of p filter f) (queue_size_of p.queue_size))))
    check f x e i (Err y) c = bad x y i c
    check f x e i (Ok filter) c = modifies f x filter e i c

    found : (f : Figures) → live_in id s.subscriptions ≡ Some f → (o : Option Item) → item_in id item s.items ≡ o →
        ModifyingItem s id item p (for_item o s item (λ x. for_checked (of_item (checked p.filter x.identity.kind item)) s (λ filter. modifying s f (modified_item x (settings_of p filter f) (queue_size_of p.queue_size)))))
    found f e None i = no_item i
    found f e (Some x) i = check f x e i (of_item (checked p.filter x.identity.kind item)) refl

    at : (o : Option Figures) → live_in id s.subscriptions ≡ o →
        ModifyingItem s id item p (for_live o s id (λ f. for_item (item_in id item s.items) s item (λ x. for_checked (of_item (checked p.filter x.identity.kind item)) s
        (λ filter. modifying s f (modified_item x (settings_of p filter f) (queue_size_of p.queue_size))))))
    at None e = unknown e
    at (Some f) e = found f e (item_in id item s.items) refl

pub data DeletingItem (s : State) (id item : ℕ) : Step (Unit {0}) → Type 0 where
  unknown : live_in id s.subscriptions ≡ None → DeletingItem s id item (refused s (SubscriptionIdInvalid id))
  no_item : item_in id item s.items ≡ None → DeletingItem s id item (refused s (fault.Item (MonitoredItemIdInvalid item)))
  deletes : (f : Figures) (x : Item) → live_in id s.subscriptions ≡ Some f → item_in id item s.items ≡ Some x →
      DeletingItem s id item (answers (with_items s (naming s f) (without item_id item s.items)) tt [])

pub deleting_item : (s : State) (id item : ℕ) → DeletingItem s id item (delete_item s id item)
deleting_item s id item = at (live_in id s.subscriptions) refl
  where
    found : (f : Figures) → live_in id s.subscriptions ≡ Some f → (o : Option Item) → item_in id item s.items ≡ o →
        DeletingItem s id item (for_item o s item (λ x. answers (with_items s (naming s f) (without item_id item s.items)) tt []))
    found f e None i = no_item i
    found f e (Some x) i = deletes f x e i

    at : (o : Option Figures) → live_in id s.subscriptions ≡ o →
        DeletingItem s id item (for_live o s id (λ f. for_item (item_in id item s.items) s item (λ x. answers (with_items s (naming s f) (without item_id item s.items)) tt [])))
    at None e = unknown e
    at (Some f) e = found f e (item_in id item s.items) refl

pub data SettingMode (s : State) (id item mode : ℕ) : Step (Unit {0}) → Type 0 where
  unknown : live_in id s.subscriptions ≡ None → SettingMode s id item mode (refused s (SubscriptionIdInvalid id))
  no_item : item_in id item s.items ≡ None → SettingMode s id item mode (refused s (fault.Item (MonitoredItemIdInvalid item)))
  bad : (e : ItemFault) → checked_mode (mode_of mode) item ≡ Err e → SettingMode s id item mode (refused s (fault.Item e))
  sets : (f : Figures) (x : Item) (m : Mode) → live_in id s.subscriptions ≡ Some f → item_in id item s.items ≡ Some x → checked_mode (mode_of mode) item ≡ Ok m →
      SettingMode s id item mode (replacing s f (moded x m) (starting x.mode m (item_id x)))

pub setting_mode : (s : State) (id item mode : ℕ) → SettingMode s id item mode (set_monitoring_mode s id item mode)
setting_mode s id item mode = at (live_in id s.subscriptions) refl
  where
    check : (f : Figures) (x : Item) → live_in id s.subscriptions ≡ Some f → item_in id item s.items ≡ Some x → (r : Result Mode ItemFault) → checked_mode (mode_of mode) item ≡ r →
        SettingMode s id item mode (for_checked r s (λ m. replacing s f (moded x m) (starting x.mode m (item_id x))))
    check f x e i (Err y) c = bad y c
    check f x e i (Ok m) c = sets f x m e i c

    found : (f : Figures) → live_in id s.subscriptions ≡ Some f → (o : Option Item) → item_in id item s.items ≡ o →
        SettingMode s id item mode (for_item o s item (λ x. for_checked (checked_mode (mode_of mode) item) s (λ m. replacing s f (moded x m) (starting x.mode m (item_id x)))))
    found f e None i = no_item i
    found f e (Some x) i = check f x e i (checked_mode (mode_of mode) item) refl

    at : (o : Option Figures) → live_in id s.subscriptions ≡ o →
        SettingMode s id item mode (for_live o s id (λ f. for_item (item_in id item s.items) s item (λ x. for_checked (checked_mode (mode_of mode) item) s (λ m. replacing s f (moded x m) (starting x.mode m (item_id x))))))
    at None e = unknown e
    at (Some f) e = found f e (item_in id item s.items) refl

-- a request, with the state as it is after the acknowledgements
pub data Requesting (s : State) (h : ℕ) : Step ℕ → Type 0 where
  nobody : none s.subscriptions ≡ true → Requesting s h (sends s (refusing NoSubscription h ∷ []) [])
  -- no slot for the first of the late list, which never comes
  lost : (id : ℕ) → first s.late ≡ Some id → lookup id_of id s.subscriptions ≡ None → Requesting s h (sends s [] [])
  answered : (id : ℕ) (f : Figures) → first s.late ≡ Some id → lookup id_of id s.subscriptions ≡ Some f → live f.phase ≡ true → (message h f s.items s.kept).response.more ≡ false →
      Requesting s h (answers_late false s (message h f s.items s.kept))
  again : (id : ℕ) (f : Figures) → first s.late ≡ Some id → lookup id_of id s.subscriptions ≡ Some f → live f.phase ≡ true → (message h f s.items s.kept).response.more ≡ true →
      Requesting s h (answers_late true s (message h f s.items s.kept))
  ended : (id : ℕ) (f : Figures) → first s.late ≡ Some id → lookup id_of id s.subscriptions ≡ Some f → live f.phase ≡ false → Requesting s h (answers_ended s h f)
  queued : none s.subscriptions ≡ false → first s.late ≡ None → (length s.requests ≡ 8 → ⊥) → Requesting s h (queues_after None s h)
  crowds : (oldest : ℕ) → none s.subscriptions ≡ false → first s.late ≡ None → length s.requests ≡ 8 → first s.requests ≡ Some oldest → Requesting s h (queues_after (Some oldest) s h)

module _ (s : State) (h : ℕ) where
  by_more : (b : Bool) (id : ℕ) (f : Figures) → first s.late ≡ Some id → lookup id_of id s.subscriptions ≡ Some f → live f.phase ≡ true → (message h f s.items s.kept).response.more ≡ b →
      Requesting s h (answers_late b s (message h f s.items s.kept))
  by_more true id f l e v m = again id f l e v m
  by_more false id f l e v m = answered id f l e v m

  by_live : (b : Bool) (id : ℕ) (f : Figures) → first s.late ≡ Some id → lookup id_of id s.subscriptions ≡ Some f → live f.phase ≡ b → Requesting s h (answers_by b s h f)
  by_live true id f l e v = by_more (message h f s.items s.kept).response.more id f l e v refl
  by_live false id f l e v = ended id f l e v

  by_lookup : (o : Option Figures) (id : ℕ) → first s.late ≡ Some id → lookup id_of id s.subscriptions ≡ o → Requesting s h (answers_first o s h)
  by_lookup None id l e = lost id l e
  by_lookup (Some f) id l e = by_live (live f.phase) id f l e refl

  by_oldest : (o : Option ℕ) → none s.subscriptions ≡ false → first s.late ≡ None → length s.requests ≡ 8 → first s.requests ≡ o → Requesting s h (queues_after o s h)
  by_oldest None n l r e = absurd (no_first s.requests r e)
    where
      no_first : (hs : List ℕ) → length hs ≡ 8 → first hs ≡ None → ⊥
      no_first [] r e = let z : ◌≡◌ {A = ℕ} 0 8 = r in omega arith
      no_first (x ∷ hs) r e = none_some (sym e)
  by_oldest (Some oldest) n l r e = crowds oldest n l r e

  by_full : (b : Bool) → none s.subscriptions ≡ false → first s.late ≡ None → eqb (length s.requests) 8 ≡ b → Requesting s h (cond b (queues_after (first s.requests) s h) (queues_after None s h))
  by_full true n l e = by_oldest (first s.requests) n l (eqb-true (length s.requests) 8 e) refl
  by_full false n l e = queued n l (eqb-false (length s.requests) 8 e)

  by_late_lem : (o : Option ℕ) → none s.subscriptions ≡ false → first s.late ≡ o → Requesting s h (by_late o s h)
  by_late_lem None n l = by_full (eqb (length s.requests) 8) n l refl
  by_late_lem (Some id) n l = by_lookup (lookup id_of id s.subscriptions) id l refl

  by_none : (b : Bool) → none s.subscriptions ≡ b → Requesting s h (cond b (sends s (refusing NoSubscription h ∷ []) []) (by_late (first s.late) s h))
  by_none true n = nobody n
  by_none false n = by_late_lem (first s.late) n refl

  pub requesting : Requesting s h (requested s h)
  requesting = by_none (none s.subscriptions) refl

-- the state after the acknowledgements
abbrev pub acknowledged_state : State → List Acknowledgement → State
acknowledged_state s acks = after_acknowledging s (all_acknowledged acks s.subscriptions s.kept)

pub data Publishing (s : State) (h : ℕ) (acks : List Acknowledgement) (room places : ℕ) : Step ℕ → Type 0 where
  short : room < 8 → Publishing s h acks room places (refused s ListTooShort)
  short_results : places < length acks → Publishing s h acks room places (refused s ListTooShort)
  many : 8 < length acks → Publishing s h acks room places (refused s TooManyOperations)
  accepted : (t : Step ℕ) → length acks ≤ 8 → Requesting (acknowledged_state s acks) h t → Publishing s h acks room places (with_results (all_acknowledged acks s.subscriptions s.kept).results t)

pub publishing_call : (s : State) (h : ℕ) (acks : List Acknowledgement) (room places : ℕ) → Publishing s h acks room places (publish s h acks room places)
publishing_call s h acks room places = at (ltb room 8) refl
  where
    step : Step ℕ
    step = accepts s h (all_acknowledged acks s.subscriptions s.kept)

    few : (b : Bool) → ltb 8 (length acks) ≡ b → Publishing s h acks room places (cond b (refused s TooManyOperations) step)
    few true e = many (ltb-true 8 (length acks) e)
    few false e = accepted (requested (acknowledged_state s acks) h) (ltb-false 8 (length acks) e) (requesting (acknowledged_state s acks) h)

    fits : (b : Bool) → ltb places (length acks) ≡ b → Publishing s h acks room places (cond b (refused s ListTooShort) (cond (ltb 8 (length acks)) (refused s TooManyOperations) step))
    fits true e = short_results (ltb-true places (length acks) e)
    fits false e = few (ltb 8 (length acks)) refl

    at : (b : Bool) → ltb room 8 ≡ b → Publishing s h acks room places (cond b (refused s ListTooShort) (cond (ltb places (length acks)) (refused s ListTooShort) (cond (ltb 8 (length acks)) (refused s TooManyOperations) step)))
    at true e = short (ltb-true room 8 e)
    at false e = fits (ltb places (length acks)) refl

pub data Republishing (s : State) (id n : ℕ) : Step Message → Type 0 where
  unknown : live_in id s.subscriptions ≡ None → Republishing s id n (refused s (SubscriptionIdInvalid id))
  no_message_lem : lookup number_of n (kept_of id s.kept) ≡ None → Republishing s id n (refused s (MessageNotAvailable n))
  republishes : (f : Figures) (m : Message) → live_in id s.subscriptions ≡ Some f → lookup number_of n (kept_of id s.kept) ≡ Some m →
      Republishing s id n (answers (with_subscriptions s (replaced id_of (named f) s.subscriptions)) m [])

pub republishing : (s : State) (id n : ℕ) → Republishing s id n (republish s id n)
republishing s id n = at (live_in id s.subscriptions) refl
  where
    found : (f : Figures) → live_in id s.subscriptions ≡ Some f → (o : Option Message) → lookup number_of n (kept_of id s.kept) ≡ o →
        Republishing s id n (for_message o s n (λ m. answers (with_subscriptions s (replaced id_of (named f) s.subscriptions)) m []))
    found f e None k = no_message_lem k
    found f e (Some m) k = republishes f m e k

    at : (o : Option Figures) → live_in id s.subscriptions ≡ o →
        Republishing s id n (for_live o s id (λ f. for_message (lookup number_of n (kept_of id s.kept)) s n (λ m. answers (with_subscriptions s (replaced id_of (named f) s.subscriptions)) m [])))
    at None e = unknown e
    at (Some f) e = found f e (lookup number_of n (kept_of id s.kept)) refl

pub data Ticking (stands : ℕ → Option Standing) (s : State) (room : ℕ) : Step ℕ → Type 0 where
  short : room < 8 → Ticking stands s room (refused s ListTooShort)
  passes_all_lem : Ticking stands s room (ticked_by (samplings stands s.items) s (passed (sampled_state stands s)))

pub ticking : (stands : ℕ → Option Standing) (s : State) (room : ℕ) → Ticking stands s room (tick stands s room)
ticking stands s room = at (ltb room 8) refl
  where
    at : (b : Bool) → ltb room 8 ≡ b → Ticking stands s room (cond b (refused s ListTooShort) (ticked_by (samplings stands s.items) s (passed (sampled_state stands s))))
    at true e = short (ltb-true room 8 e)
    at false e = passes_all_lem
