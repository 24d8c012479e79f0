-- What the turn of a subscription leaves, and the turns of a tick one after another.
use Rattle.std.proofs.Common.{◌≡◌, ℕ, ◌+◌, ◌<◌, ◌≤◌, Bool, true, false, cond, leb, ◌⊎◌, List, [], ◌∷◌, ◌++◌, map, sym, refl, ap, ◌∙◌, subst, inl, inr, append_assoc, arith}
use Rattle.std.specs.List.{AllByRecursion}
use Rattle.std.proofs.lemmas.List.{append-nil, map-append}
use Rattle.std.proofs.lemmas.Bool.{true≢false, leb-false, or_parts, not-false}
use Rattle.fifo.specs.Lists.{none}
use Rattle.subscriptions.specs.declared.figures.Figures.{Figures}
use Rattle.subscriptions.specs.declared.figures.Phase.{Phase}
use Rattle.subscriptions.specs.declared.figures.Phase.TheVariants.{Quiet, Late, Ended}
use Rattle.subscriptions.specs.Facts.{prompt, live}
use Rattle.subscriptions.specs.Keys.{id_of}
use Rattle.subscriptions.specs.Changes.{standing, messaged, joined, counted_down}
use Rattle.subscriptions.specs.Cycle.{due, fresh}
use Rattle.items.specs.Item.{Item}
use Rattle.messages.specs.declared.response.Response.{Response}
use Rattle.retransmission.specs.Rows.{Kept}
use Rattle.model.specs.Messages.{message}
use Rattle.model.specs.Tick.{Shared, Passed, Pass, asked, passes, passes_all, then}
use Rattle.model.specs.Sound.{In, Distinct, Within, Bounded, Placed}
use Rattle.soundness.proofs.Members.{in_left, in_cases, in_push, in_last, distinct_push, none_empty, tail_empty}
use Rattle.soundness.proofs.Bounds.{messaged_bounded, counted_bounded, joined_prompt, joined_live, joined_bounded}
use Rattle.soundness.proofs.Turns.{handle_of, message_carried, Messaging, no_request, final, further, idle_after, idled, quieted, waiting, Passing, over, counting, lasting, ending, quieting, sending, joining, passing, prompt_live}

-- an ended one was idle for its lifetime
abbrev pub Spent : Figures → Type 0
Spent f = live f.phase ≡ false → f.idle ≡ f.revised.lifetime

pub spent_live : (f : Figures) → live f.phase ≡ true → Spent f
spent_live f v e = absurd (true≢false (sym v ∙ e))

-- where a turn leaves a subscription that had the phase p: the late list is as it was, or the subscription has joined it
pub data Placing (id : ℕ) (p : Phase) (late : List ℕ) (t : Passed) : Type 0 where
  kept_place : t.shared.late ≡ late → prompt t.figures.phase ≡ prompt p → Placing id p late t
  joined_late : t.shared.late ≡ late ++ id ∷ [] → prompt p ≡ true → prompt t.figures.phase ≡ false → t.shared.requests ≡ [] → Placing id p late t

-- what a turn leaves, from the record f with the requests hs and the late list
pub record Turned (f : Figures) (hs late : List ℕ) (t : Passed) : Type 0 where
  pub id : t.figures.id ≡ f.id
  pub revised : t.figures.revised ≡ f.revised
  pub enabled : t.figures.enabled ≡ f.enabled
  pub bounded : Bounded t.figures
  pub spent : Spent t.figures
  -- each response answers the oldest request that is left
  pub handles : map handle_of t.responses ++ t.shared.requests ≡ hs
  pub place : Placing f.id f.phase late t

pub messages_turned : (hs : List ℕ) (f : Figures) (xs : List Item) (kept : List Kept) (late : List ℕ) (t : Passed) → Messaging hs f xs kept late t → Bounded f → prompt f.phase ≡ true → Turned f hs late t
messages_turned hs f xs kept late t (no_request _ _ _ _) b p =
    record {
      id = refl;
      revised = refl;
      enabled = refl;
      bounded = joined_bounded f b;
      spent = spent_live (joined f) (joined_live f ∙ prompt_live f.phase p);
      handles = refl;
      place = joined_late refl p (joined_prompt f) refl;
    }
messages_turned hs f xs kept late t (final h rest _ _ _ _ d) b p =
    let m = message h f xs kept in
    let c = message_carried h f xs kept in
    record {
      id = c.id;
      revised = c.revised;
      enabled = c.enabled;
      bounded = c.bounded b;
      spent = spent_live m.figures (ap live c.phase);
      handles = ap (λ n. n ∷ rest) c.handle;
      place = kept_place refl (ap prompt c.phase ∙ sym p);
    }
messages_turned hs f xs kept late t (further h rest _ _ _ _ t' d w) b p =
    let m = message h f xs kept in
    let c = message_carried h f xs kept in
    let ih = messages_turned rest m.figures m.items m.kept late t' w (c.bounded b) (ap prompt c.phase) in
    record {
      id = ih.id ∙ c.id;
      revised = ih.revised ∙ c.revised;
      enabled = ih.enabled ∙ c.enabled;
      bounded = ih.bounded;
      spent = ih.spent;
      handles = ap (λ n. n ∷ (map handle_of t'.responses ++ t'.shared.requests)) c.handle ∙ ap (λ l. h ∷ l) ih.handles;
      place = at c.id (ap prompt c.phase) ih.place;
    }
  where
    at : (i : (message h f xs kept).figures.id ≡ f.id) → prompt (message h f xs kept).figures.phase ≡ true → Placing (message h f xs kept).figures.id (message h f xs kept).figures.phase late t' → Placing f.id f.phase late t
    at i e (kept_place l q) = kept_place l (q ∙ e ∙ sym p)
    at i e (joined_late l q n r) = joined_late (l ∙ ap (λ n. late ++ n ∷ []) i) p n r

asked_none : (q : Shared) → asked q ≡ false → q.requests ≡ []
asked_none q e = none_empty q.requests (not-false (none q.requests) e)

module _ (f : Figures) (q : Shared) (b : Bounded f) where
  idle_after_lem : (t : Bool) → cond t 0 (f.idle + 1) ≤ f.idle + 1
  idle_after_lem true = omega arith
  idle_after_lem false = omega arith

  -- one more cycle off the late list leaves room for one more
  quieted_counted : prompt f.phase ≡ true → (f.quiet + 1 ≤ 1000) × (idle_after q f ≤ f.quiet + 1) × (idle_after q f < f.revised.lifetime)
  quieted_counted p =
      let c = b.3.0 p in
      let w = b.1 in
      let i = idle_after_lem (asked q) in
      (omega arith, omega (arith, i), omega (arith, i))

  quieted_bounded : prompt f.phase ≡ true → due (waiting f q) (quieted q f) ≡ false → Bounded (quieted q f)
  quieted_bounded p d =
      let k = counted_bounded f b in
      let n = quieted_counted p in
      let parts = or_parts (fresh f.phase) _ d in
      let l : f.quiet + 1 < f.revised.keep_alive = leb-false f.revised.keep_alive (f.quiet + 1) (or_parts (leb f.revised.keep_alive (f.quiet + 1)) _ parts.1).0 in
      let w = b.1 in
      let m = n.1 in
      let o = n.2 in
      (k.0, k.1, k.2, ((λ z. (m, omega arith, omega arith)), (λ z. o), omega arith, omega arith))

  -- with the quiet count at its end a message follows, or a place on the late list
  sent_bounded : prompt f.phase ≡ true → Bounded (messaged (quieted q f))
  sent_bounded p = let k = counted_bounded f b in messaged_bounded (counted_down f) k

  late_bounded : prompt f.phase ≡ true → Bounded (joined (quieted q f))
  late_bounded p =
      let k = counted_bounded f b in
      let n = quieted_counted p in
      let o = n.2 in
      (k.0, k.1, k.2, ((λ z. absurd (true≢false (sym z ∙ joined_prompt f))), (λ z. o), omega arith, n.0))

  -- a live one that is late
  lasting_bounded : f.phase ≡ Late → idle_after q f < f.revised.lifetime → Bounded (idled q f)
  lasting_bounded e l =
      let k = counted_bounded f b in
      (k.0, k.1, k.2, ((λ z. absurd (true≢false (sym z ∙ ap prompt e))), (λ z. l), omega arith, b.3.3))

  ending_bounded : idle_after q f ≡ f.revised.lifetime → Bounded (standing Ended f.quiet (idle_after q f) (counted_down f))
  ending_bounded e =
      let k = counted_bounded f b in
      (k.0, k.1, k.2, ((λ z. absurd (true≢false (sym z))), (λ z. absurd (true≢false (sym z))), omega (arith, e), b.3.3))

  pub turned_by : Spent f → (t : Passed) → Passing f q t → Turned f q.requests q.late t
  turned_by s t (over v) =
      record { id = refl; revised = refl; enabled = refl; bounded = b; spent = s; handles = refl; place = kept_place refl refl }
  turned_by s t (counting v r) =
      record { id = refl; revised = refl; enabled = refl; bounded = counted_bounded f b; spent = s; handles = refl; place = kept_place refl refl }
  turned_by s t (lasting e r l) =
      record { id = refl; revised = refl; enabled = refl; bounded = lasting_bounded e l; spent = spent_live (idled q f) (ap live e); handles = refl; place = kept_place refl refl }
  turned_by s t (ending e r a l) =
      record { id = refl; revised = refl; enabled = refl; bounded = ending_bounded l; spent = λ z. l; handles = refl; place = kept_place refl (sym (ap prompt e)) }
  turned_by s t (quieting p r d) =
      record { id = refl; revised = refl; enabled = refl; bounded = quieted_bounded p d; spent = spent_live (quieted q f) (prompt_live f.phase p); handles = refl; place = kept_place refl refl }
  turned_by s t (sending p r d a _ w) =
      let m = messages_turned q.requests (messaged (quieted q f)) q.items q.kept q.late t w (sent_bounded p) refl in
      record {
        id = m.id;
        revised = m.revised;
        enabled = m.enabled;
        bounded = m.bounded;
        spent = m.spent;
        handles = m.handles;
        place = at m.place;
      }
    where
      at : Placing f.id Quiet q.late t → Placing f.id f.phase q.late t
      at (kept_place l e) = kept_place l (e ∙ sym p)
      at (joined_late l e n z) = joined_late l p n z
  turned_by s t (joining p r d a) =
      record {
        id = refl;
        revised = refl;
        enabled = refl;
        bounded = late_bounded p;
        spent = spent_live (joined (quieted q f)) (joined_live f ∙ prompt_live f.phase p);
        handles = refl;
        place = joined_late refl p (joined_prompt f) (asked_none q a);
      }

  pub turned : Spent f → Turned f q.requests q.late (passes f q)
  turned s = turned_by s (passes f q) (passing f q b)

-- what the turns of fs leave
pub record AllPassed (fs : List Figures) (hs late : List ℕ) (p : Pass) : Type 0 where
  pub ids : map id_of p.subscriptions ≡ map id_of fs
  pub bounded : AllByRecursion Bounded p.subscriptions
  pub once : Distinct p.shared.late
  -- those that joined the late list, in order
  pub more : List ℕ
  pub grown : p.shared.late ≡ late ++ more
  pub from : Within more (map id_of fs)
  pub placed : AllByRecursion (Placed p.shared.late) p.subscriptions
  pub calm : (p.shared.late ≡ []) ⊎ (p.shared.requests ≡ [])
  -- each response answers the oldest request that is left
  pub handles : map handle_of p.responses ++ p.shared.requests ≡ hs

-- the responses of a turn and those behind it
handles_join : (xs ys : List Response) (rs rs' hs : List ℕ) → map handle_of ys ++ rs ≡ rs' → map handle_of xs ++ rs' ≡ hs → map handle_of (xs ++ ys) ++ rs ≡ hs
handles_join xs ys rs rs' hs e d =
    ap (λ l. l ++ rs) (map-append handle_of xs ys) ∙ append_assoc (map handle_of xs) (map handle_of ys) rs ∙ ap (λ l. map handle_of xs ++ l) e ∙ d

-- another subscription joins the late list
placed_push : (late : List ℕ) (k : ℕ) (fs : List Figures) → AllByRecursion (Placed late) fs → (In k (map id_of fs) → ⊥) → AllByRecursion (Placed (late ++ k ∷ [])) fs
placed_push late k [] a o = tt
placed_push late k (f ∷ fs) a o = (
  ((λ p h. elim (in_push f.id k late h) [ inl x ↦ a.0.0 p x | inr e ↦ o (inl (sym e)) ]), (λ p. in_left f.id late (k ∷ []) (a.0.1 p)), a.0.2),
  placed_push late k fs a.1 (λ h. o (inr h)),
)

module _ (f : Figures) (fs : List Figures) (hs late : List ℕ) (o : In f.id (map id_of fs) → ⊥) (pl : Placed late f) (once : Distinct late) where
  once_turn : (t : Passed) → Turned f hs late t → Distinct t.shared.late
  once_turn t w = at w.place
    where
      at : Placing f.id f.phase late t → Distinct t.shared.late
      at (kept_place l e) = subst Distinct (sym l) once
      at (joined_late l p n z) = subst Distinct (sym l) (distinct_push late f.id once (pl.0 p))

  placed_turn : (t : Passed) → Turned f hs late t → AllByRecursion (Placed late) fs → AllByRecursion (Placed t.shared.late) fs
  placed_turn t w a = at w.place
    where
      at : Placing f.id f.phase late t → AllByRecursion (Placed t.shared.late) fs
      at (kept_place l e) = subst (λ ks. AllByRecursion (Placed ks) fs) (sym l) a
      at (joined_late l p n z) = subst (λ ks. AllByRecursion (Placed ks) fs) (sym l) (placed_push late f.id fs a o)

  calm_turn : (t : Passed) → Turned f hs late t → (late ≡ []) ⊎ (hs ≡ []) → (t.shared.late ≡ []) ⊎ (t.shared.requests ≡ [])
  calm_turn t w c = at w.place c
    where
      at : Placing f.id f.phase late t → (late ≡ []) ⊎ (hs ≡ []) → (t.shared.late ≡ []) ⊎ (t.shared.requests ≡ [])
      at (kept_place l e) (inl x) = inl (l ∙ x)
      at (kept_place l e) (inr x) = inr (tail_empty (map handle_of t.responses) t.shared.requests (w.handles ∙ x))
      at (joined_late l p n z) c = inr z

  -- a turn, and the turns behind it
  step : (t : Passed) → Turned f hs late t → (p : Pass) → AllPassed fs t.shared.requests t.shared.late p → AllPassed (f ∷ fs) hs late (then t p)
  step t w p r = at w.place
    where
      -- those behind do not put this one on the late list
      behind : In t.figures.id p.shared.late → In f.id t.shared.late
      behind h = elim (in_cases t.figures.id t.shared.late r.more (subst (In t.figures.id) r.grown h)) [
        | inl x ↦ subst (λ k. In k t.shared.late) w.id x
        | inr y ↦ absurd (o (subst (λ k. In k (map id_of fs)) w.id (r.from t.figures.id y)))
      ]

      ahead : In f.id t.shared.late → In t.figures.id p.shared.late
      ahead h = subst (In t.figures.id) (sym r.grown) (in_left t.figures.id t.shared.late r.more (subst (λ k. In k t.shared.late) (sym w.id) h))

      ids : map id_of (t.figures ∷ p.subscriptions) ≡ map id_of (f ∷ fs)
      ids = λ j. w.id j ∷ r.ids j

      handles : map handle_of (t.responses ++ p.responses) ++ p.shared.requests ≡ hs
      handles = handles_join t.responses p.responses p.shared.requests t.shared.requests hs r.handles w.handles

      at : Placing f.id f.phase late t → AllPassed (f ∷ fs) hs late (then t p)
      at (kept_place l e) =
          record {
            ids = ids;
            bounded = (w.bounded, r.bounded);
            once = r.once;
            more = r.more;
            grown = r.grown ∙ ap (λ ks. ks ++ r.more) l;
            from = λ k h. inr (r.from k h);
            placed = (
              ((λ q h. pl.0 (sym e ∙ q) (subst (In f.id) l (behind h))), (λ q. ahead (subst (In f.id) (sym l) (pl.1 (sym e ∙ q)))), w.spent),
              r.placed,
            );
            calm = r.calm;
            handles = handles;
          }
      at (joined_late l q n z) =
          record {
            ids = ids;
            bounded = (w.bounded, r.bounded);
            once = r.once;
            more = f.id ∷ r.more;
            grown = r.grown ∙ ap (λ ks. ks ++ r.more) l ∙ append_assoc late (f.id ∷ []) r.more;
            from = λ k h. elim h [ inl x ↦ inl x | inr y ↦ inr (r.from k y) ];
            placed = (
              ((λ q h. absurd (true≢false (sym q ∙ n))), (λ q. ahead (subst (In f.id) (sym l) (in_last f.id late))), w.spent),
              r.placed,
            );
            calm = r.calm;
            handles = handles;
          }

pub all_passed : (fs : List Figures) (q : Shared) → Distinct (map id_of fs) → AllByRecursion Bounded fs → Distinct q.late → AllByRecursion (Placed q.late) fs → (q.late ≡ []) ⊎ (q.requests ≡ []) →
    AllPassed fs q.requests q.late (passes_all fs q)
all_passed [] q d b once a c =
    record { ids = refl; bounded = tt; once = once; more = []; grown = sym (append-nil q.late); from = λ k h. h; placed = tt; calm = c; handles = refl }
all_passed (f ∷ fs) q d b once a c =
    let t = passes f q in
    let w = turned f q b.0 a.0.2 in
    step f fs q.requests q.late d.0 a.0 once t w (passes_all fs t.shared)
    (all_passed fs t.shared d.1 b.1 (once_turn f fs q.requests q.late d.0 a.0 once t w) (placed_turn f fs q.requests q.late d.0 a.0 once t w a.1) (calm_turn f fs q.requests q.late d.0 a.0 once t w c))
