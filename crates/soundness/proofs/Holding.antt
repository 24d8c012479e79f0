-- Every call keeps the items and the kept messages of the live subscriptions.
use Rattle.std.proofs.Common.{◌≡◌, ℕ, ◌+◌, Bool, true, false, cond, eqb, ltb, List, [], ◌∷◌, ◌++◌, length, Some, None, Ok, Err, Option, Result, sym, refl, ◌∙◌, subst, arith}
use Rattle.std.specs.List.{AllByRecursion}
use Rattle.std.proofs.ByRecursion.{All-weaker}
use Rattle.std.proofs.lemmas.Bool.{eqb-false}
use Rattle.fifo.specs.Lists.{none, first, lookup, replaced, without}
use Rattle.values.specs.declared.value.Kind.{Kind}
use Rattle.values.specs.declared.checked.CheckedFilter.{CheckedFilter}
use Rattle.values.specs.Check.{checked}
use Rattle.sources.specs.declared.source.Standing.{Standing}
use Rattle.subscriptions.specs.declared.figures.Figures.{Figures}
use Rattle.subscriptions.specs.Facts.{live}
use Rattle.subscriptions.specs.Keys.{id_of}
use Rattle.subscriptions.specs.Changes.{created, modified, publishing, named, joined}
use Rattle.subscriptions.specs.Revision.{revision}
use Rattle.items.specs.declared.fault.ItemFault.{ItemFault}
use Rattle.items.specs.declared.item.Mode.{Mode}
use Rattle.items.specs.Faults.{checked_item, checked_mode, mode_of}
use Rattle.items.specs.Item.{Item, moded}
use Rattle.items.specs.Item as item
use Rattle.items.specs.Queue.{queue_size_of}
use Rattle.item_table.specs.Table.{item_in}
use Rattle.messages.specs.declared.message.Message.{Message}
use Rattle.messages.specs.Messages.{number_of}
use Rattle.messages.specs.declared.response.ResponseKind.TheVariants.{NoSubscription}
use Rattle.messages.specs.Responses.{refusing}
use Rattle.retransmission.specs.Rows.{Kept, kept_of}
use Rattle.answers.specs.declared.fault.ServiceFault.{ServiceFault}
use Rattle.answers.specs.declared.fault.ServiceFault.TheVariants.{ListTooShort, TooManySubscriptions, TooManyMonitoredItems, TooManyOperations, IdsUsedUp}
use Rattle.answers.specs.declared.acknowledgement.Acknowledgement.{Acknowledgement}
use Rattle.subscriptions.specs.declared.parameters.SubscriptionParameters.{SubscriptionParameters}
use Rattle.model.specs.declared.parameters.MonitoringParameters.{MonitoringParameters}
use Rattle.model.specs.State.{State, new_state, live_in}
use Rattle.model.specs.Steps.{Step, refused, sends, for_live, for_item, for_checked}
use Rattle.model.specs.Subscribing.{creates, create_subscription, modify_subscription, set_publishing_mode, dropped, emptied, delete_subscription}
use Rattle.model.specs.Monitoring.{settings_of, naming, for_known, adding, new_item, create_item, of_item, modify_item, delete_item, set_monitoring_mode}
use Rattle.model.specs.Messages.{Sending, message}
use Rattle.model.specs.Publish.{acknowledged_by, acknowledged, AllAcknowledged, all_acknowledged, answers_late, answers_by, answers_first, queues_after, by_late, requested, after_acknowledging, accepts, publish}
use Rattle.model.specs.Republish.{for_message, republish}
use Rattle.model.specs.Tick.{passed, sampled_state, ticked_by, samplings, tick}
use Rattle.model.specs.Sound.{alive, live_ids, Bounded, Sound}
use Rattle.soundness.proofs.Members.{in_left}
use Rattle.soundness.proofs.Subs.{lookup_key, lookup_all, all_replaced}
use Rattle.soundness.proofs.LiveIds.{live_found, live_in_lem, live_replaced, live_without, ended_without, live_push, live_few}
use Rattle.soundness.proofs.Goods.{good_created, good_modified, good_moded}
use Rattle.soundness.proofs.Kept.{Rows, rows_acknowledging, rows_opening}
use Rattle.soundness.proofs.Held.{Items, items_weaker, items_replaced, items_without, items_ticked, items_push, item_good, item_found, Held, HeldBy, held_ids, held_dropped, held_sound}
use Rattle.soundness.proofs.Sendings.{Limited, late_live, SentOf, sent_of, passed_held}

-- a call by its refusals: what holds before holds after where the accepted call keeps it
module _ {X : Type 0} (P : State → Type 0) (s : State) (h : P s) where
  pub by_test : (b : Bool) (e : ServiceFault) (t : Step X) → (b ≡ false → P t.state) → P (cond b (refused s e) t).state
  by_test true e t k = h
  by_test false e t k = k refl

  pub by_live : (o : Option Figures) (id : ℕ) (step : Figures → Step X) → ((f : Figures) → o ≡ Some f → P (step f).state) → P (for_live o s id step).state
  by_live None id step k = h
  by_live (Some f) id step k = k f refl

  pub by_item : (o : Option Item) (id : ℕ) (step : Item → Step X) → ((x : Item) → o ≡ Some x → P (step x).state) → P (for_item o s id step).state
  by_item None id step k = h
  by_item (Some x) id step k = k x refl

  pub by_check : {Y : Type 0} (o : Result Y ItemFault) (step : Y → Step X) → ((y : Y) → P (step y).state) → P (for_checked o s step).state
  by_check (Err e) step k = h
  by_check (Ok y) step k = k y

  pub by_known : (o : Option Standing) (node : ℕ) (step : Kind → Step X) → ((kind : Kind) → P (step kind).state) → P (for_known o s node step).state
  by_known None node step k = h
  by_known (Some t) node step k = k t.kind

  pub by_message : (o : Option Message) (n : ℕ) (step : Message → Step X) → ((m : Message) → o ≡ Some m → P (step m).state) → P (for_message o s n step).state
  by_message None n step k = h
  by_message (Some m) n step k = k m refl

pub held_new : (first : ℕ) → HeldBy (new_state first)
held_new first = record { items = record { few = omega arith; rising = refl; each = tt }; rows = record { order = refl; retained = tt } }

module _ (s : State) (sound : Sound s) where
  now : HeldBy s
  now = held_sound s sound

  limits : AllByRecursion Limited s.subscriptions
  limits = All-weaker Bounded Limited (λ f b. b.2.1) s.subscriptions sound.published.bounded

  -- a live subscription is replaced by one with its id that is live too
  ids_kept : (id : ℕ) (f g : Figures) → live_in id s.subscriptions ≡ Some f → g.id ≡ f.id → alive g ≡ alive f → live_ids (replaced id_of g s.subscriptions) ≡ live_ids s.subscriptions
  ids_kept id f g e i a = live_replaced id g s.subscriptions f (live_found id s.subscriptions f e).0 i a

  pub held_create_subscription : (p : SubscriptionParameters) (enabled : Bool) → HeldBy (create_subscription s p enabled).state
  held_create_subscription p enabled =
      by_test HeldBy s now (eqb (length s.subscriptions) 4) TooManySubscriptions _ (λ e.
      by_test HeldBy s now (ltb 4294967295 s.next) IdsUsedUp _ (λ _. made (eqb-false (length s.subscriptions) 4 e)))
    where
      ids : List ℕ
      ids = live_ids s.subscriptions

      f : Figures
      f = created s.next (revision p) enabled

      made : (length s.subscriptions ≡ 4 → ⊥) → HeldBy (creates s f).state
      made n =
          let few = sound.published.few in
          let c = live_few s.subscriptions in
          held_ids (s.next + 1) (ids ++ s.next ∷ []) (live_ids (s.subscriptions ++ f ∷ [])) s.items _ (live_push s.subscriptions f refl)
          (record {
            items = items_weaker s.next ids s.items now.items (s.next + 1) (ids ++ s.next ∷ []) (omega arith) (λ j i. in_left j ids (s.next ∷ []) i);
            rows = rows_opening ids s.kept s.next (omega arith) now.rows;
          })

  pub held_modify_subscription : (id : ℕ) (p : SubscriptionParameters) → HeldBy (modify_subscription s id p).state
  held_modify_subscription id p =
      by_live HeldBy s now (live_in id s.subscriptions) id _ (λ f e.
      held_ids s.next (live_ids s.subscriptions) _ s.items s.kept (ids_kept id f (modified (revision p) f) e refl refl) now)

  pub held_publishing_mode : (id : ℕ) (enabled : Bool) → HeldBy (set_publishing_mode s id enabled).state
  held_publishing_mode id enabled =
      by_live HeldBy s now (live_in id s.subscriptions) id _ (λ f e.
      held_ids s.next (live_ids s.subscriptions) _ s.items s.kept (ids_kept id f (publishing enabled f) e refl refl) now)

  pub held_republish : (id n : ℕ) → HeldBy (republish s id n).state
  held_republish id n =
      by_live HeldBy s now (live_in id s.subscriptions) id _ (λ f e.
      by_message HeldBy s now (lookup number_of n (kept_of id s.kept)) n _ (λ m _.
      held_ids s.next (live_ids s.subscriptions) _ s.items s.kept (ids_kept id f (named f) e refl refl) now))

  pub held_delete_subscription : (id room : ℕ) → HeldBy (delete_subscription s id room).state
  held_delete_subscription id room =
      by_test HeldBy s now (ltb room 8) ListTooShort _ (λ _.
      by_live HeldBy s now (live_in id s.subscriptions) id _ (λ f e. either (none (without id_of id s.subscriptions)) (gone f e)))
    where
      gone : (f : Figures) → live_in id s.subscriptions ≡ Some f → HeldBy (dropped s id)
      gone f e =
          let l = live_found id s.subscriptions f e in
          held_ids s.next _ (live_ids (without id_of id s.subscriptions)) _ _ (live_without id s.subscriptions f l.0 l.1) (held_dropped s.next (live_ids s.subscriptions) s.items s.kept id now)

      either : (b : Bool) → HeldBy (dropped s id) → HeldBy (emptied b (dropped s id)).state
      either true h = h
      either false h = h

  -- the subscription is named and the items change
  named_items : (id : ℕ) (f : Figures) (n : ℕ) (xs : List Item) → live_in id s.subscriptions ≡ Some f → Items n (live_ids s.subscriptions) xs → Held n (live_ids (naming s f)) xs s.kept
  named_items id f n xs e h =
      held_ids n (live_ids s.subscriptions) (live_ids (naming s f)) xs s.kept (ids_kept id f (named f) e refl refl) (record { items = h; rows = now.rows })

  pub held_create_item : (stands : ℕ → Option Standing) (id node mode : ℕ) (p : MonitoringParameters) → HeldBy (create_item stands s id node mode p).state
  held_create_item stands id node mode p =
      by_live HeldBy s now (live_in id s.subscriptions) id _ (λ f e.
      by_test HeldBy s now (eqb (length s.items) 32) TooManyMonitoredItems _ (λ full.
      by_test HeldBy s now (ltb 4294967295 s.next) IdsUsedUp _ (λ _.
      by_known HeldBy s now (stands node) node _ (λ kind.
      by_check HeldBy s now (checked_item mode p.filter kind node) _ (λ checks. made f e (eqb-false (length s.items) 32 full) kind checks)))))
    where
      made : (f : Figures) → live_in id s.subscriptions ≡ Some f → (length s.items ≡ 32 → ⊥) → (kind : Kind) (checks : Mode × CheckedFilter) → HeldBy (adding s f (new_item s f id node p kind checks)).state
      made f e n kind checks =
          let few = now.items.few in
          let l = live_found id s.subscriptions f e in
          named_items id f (s.next + 1) _ e
          (items_push s.next (live_ids s.subscriptions) s.items (new_item s f id node p kind checks) now.items (omega arith) sound.published.given refl
          (good_created (s.next + 1) (live_ids s.subscriptions) (record { id = s.next; subscription = id; node = node; kind = kind }) (settings_of p checks.1 f) p.queue_size checks.0 (omega arith) (live_in_lem id s.subscriptions f l.0 l.1)))

  pub held_modify_item : (id k : ℕ) (p : MonitoringParameters) → HeldBy (modify_item s id k p).state
  held_modify_item id k p =
      by_live HeldBy s now (live_in id s.subscriptions) id _ (λ f e.
      by_item HeldBy s now (item_in id k s.items) k _ (λ x found.
      by_check HeldBy s now (of_item (checked p.filter x.identity.kind k)) _ (λ filter.
      named_items id f s.next _ e
      (items_replaced s.next (live_ids s.subscriptions) s.items now.items (item.modified x (settings_of p filter f) (queue_size_of p.queue_size))
      (good_modified s.next (live_ids s.subscriptions) x (settings_of p filter f) p.queue_size
      (item_good s.next (live_ids s.subscriptions) s.items now.items k x (item_found id k s.items x found)))))))

  pub held_delete_item : (id k : ℕ) → HeldBy (delete_item s id k).state
  held_delete_item id k =
      by_live HeldBy s now (live_in id s.subscriptions) id _ (λ f e.
      by_item HeldBy s now (item_in id k s.items) k _ (λ x found.
      named_items id f s.next _ e (items_without s.next (live_ids s.subscriptions) s.items now.items k)))

  pub held_monitoring_mode : (id k mode : ℕ) → HeldBy (set_monitoring_mode s id k mode).state
  held_monitoring_mode id k mode =
      by_live HeldBy s now (live_in id s.subscriptions) id _ (λ f e.
      by_item HeldBy s now (item_in id k s.items) k _ (λ x found.
      by_check HeldBy s now (checked_mode (mode_of mode) k) _ (λ m.
      named_items id f s.next _ e
      (items_replaced s.next (live_ids s.subscriptions) s.items now.items (moded x m)
      (good_moded s.next (live_ids s.subscriptions) x m
      (item_good s.next (live_ids s.subscriptions) s.items now.items k x (item_found id k s.items x found)))))))

  pub held_tick : (stands : ℕ → Option Standing) (room : ℕ) → HeldBy (tick stands s room).state
  held_tick stands room =
      by_test HeldBy s now (ltb room 8) ListTooShort (ticked_by (samplings stands s.items) s (passed (sampled_state stands s))) (λ _.
      passed_held s.next 0 [] s.subscriptions _ tt sound.published.rising limits
      (record { items = items_ticked s.next (live_ids s.subscriptions) s.items now.items stands; rows = now.rows }))

-- what acknowledgements leave
pub record Accepted (ids : List ℕ) (fs : List Figures) (kept : List Kept) : Type 0 where
  pub living : live_ids fs ≡ ids
  pub limited : AllByRecursion Limited fs
  pub rows : Rows ids kept

pub acknowledges : (a : Acknowledgement) (ids : List ℕ) (fs : List Figures) (kept : List Kept) → Accepted ids fs kept → Accepted ids (acknowledged a fs kept).subscriptions (acknowledged a fs kept).kept
acknowledges a ids fs kept h = at (live_in a.subscription fs) refl
  where
    at : (o : Option Figures) → live_in a.subscription fs ≡ o → Accepted ids (acknowledged_by o a fs kept).subscriptions (acknowledged_by o a fs kept).kept
    at None e = h
    at (Some f) e =
        let l = live_found a.subscription fs f e in
        record {
          living = live_replaced a.subscription (named f) fs f l.0 refl refl ∙ h.living;
          limited = all_replaced id_of Limited (named f) fs h.limited (lookup_all id_of Limited a.subscription fs f h.limited l.0);
          rows = rows_acknowledging ids kept a.subscription a.number h.rows;
        }

pub acknowledges_all : (acks : List Acknowledgement) (ids : List ℕ) (fs : List Figures) (kept : List Kept) → Accepted ids fs kept → Accepted ids (all_acknowledged acks fs kept).subscriptions (all_acknowledged acks fs kept).kept
acknowledges_all [] ids fs kept h = h
acknowledges_all (a ∷ acks) ids fs kept h =
    acknowledges_all acks ids (acknowledged a fs kept).subscriptions (acknowledged a fs kept).kept (acknowledges a ids fs kept h)

-- a request, of a state after its acknowledgements
module _ (s : State) (now : HeldBy s) (limits : AllByRecursion Limited s.subscriptions) (handle : ℕ) where
  joined_live : (f : Figures) → alive f ≡ true → alive (joined f) ≡ true
  joined_live f a = late_live f.phase a

  late_held : (b : Bool) (id : ℕ) (f : Figures) (m : Sending) → lookup id_of id s.subscriptions ≡ Some f → alive f ≡ true → SentOf f s.items s.kept m → HeldBy (answers_late b s m).state
  late_held true id f m e a t =
      held_ids s.next (live_ids s.subscriptions) _ m.items m.kept
      (live_replaced id (joined m.figures) s.subscriptions f e t.same (joined_live m.figures t.living ∙ sym a))
      (t.held s.next (live_ids s.subscriptions) now)
  late_held false id f m e a t =
      held_ids s.next (live_ids s.subscriptions) _ m.items m.kept
      (live_replaced id m.figures s.subscriptions f e t.same (t.living ∙ sym a))
      (t.held s.next (live_ids s.subscriptions) now)

  by_phase : (b : Bool) (id : ℕ) (f : Figures) → lookup id_of id s.subscriptions ≡ Some f → alive f ≡ b → HeldBy (answers_by b s handle f).state
  by_phase true id f e a =
      let m = message handle f s.items s.kept in
      late_held m.response.more id f m e a (sent_of handle f s.items s.kept (lookup_all id_of Limited id s.subscriptions f limits e))
  by_phase false id f e a =
      let e' : lookup id_of f.id s.subscriptions ≡ Some f = subst (λ k. lookup id_of k s.subscriptions ≡ Some f) (sym (lookup_key id_of id s.subscriptions f e)) e in
      held_ids s.next (live_ids s.subscriptions) _ s.items s.kept (ended_without f.id s.subscriptions f e' a) now

  by_first : (o : Option Figures) (id : ℕ) → lookup id_of id s.subscriptions ≡ o → HeldBy (answers_first o s handle).state
  by_first None id e = now
  by_first (Some f) id e = by_phase (live f.phase) id f e refl

  by_oldest : (o : Option ℕ) → HeldBy (queues_after o s handle).state
  by_oldest None = now
  by_oldest (Some oldest) = now

  by_full : (b : Bool) → HeldBy (cond b (queues_after (first s.requests) s handle) (queues_after None s handle)).state
  by_full true = by_oldest (first s.requests)
  by_full false = now

  by_late_lem : (o : Option ℕ) → HeldBy (by_late o s handle).state
  by_late_lem None = by_full (eqb (length s.requests) 8)
  by_late_lem (Some id) = by_first (lookup id_of id s.subscriptions) id refl

  pub held_requested : HeldBy (requested s handle).state
  held_requested = at (none s.subscriptions)
    where
      at : (b : Bool) → HeldBy (cond b (sends s (refusing NoSubscription handle ∷ []) []) (by_late (first s.late) s handle)).state
      at true = now
      at false = by_late_lem (first s.late)

pub held_publish : (s : State) (handle : ℕ) (acks : List Acknowledgement) (room places : ℕ) → Sound s → HeldBy (publish s handle acks room places).state
held_publish s handle acks room places sound =
    by_test HeldBy s (now s sound) (ltb room 8) ListTooShort _ (λ _.
    by_test HeldBy s (now s sound) (ltb places (length acks)) ListTooShort _ (λ _.
    by_test HeldBy s (now s sound) (ltb 8 (length acks)) TooManyOperations _ (λ _. accepted)))
  where
    ids : List ℕ
    ids = live_ids s.subscriptions

    t : AllAcknowledged
    t = all_acknowledged acks s.subscriptions s.kept

    left : Accepted ids t.subscriptions t.kept
    left = acknowledges_all acks ids s.subscriptions s.kept (record { living = refl; limited = limits s sound; rows = (now s sound).rows })

    accepted : HeldBy (accepts s handle t).state
    accepted =
        held_requested (after_acknowledging s t)
        (held_ids s.next ids (live_ids t.subscriptions) s.items t.kept left.living (record { items = (now s sound).items; rows = left.rows }))
        left.limited handle
