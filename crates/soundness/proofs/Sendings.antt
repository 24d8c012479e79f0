-- What messages and the pass over the subscriptions do to items and kept messages.
use Rattle.std.proofs.Common.{◌≡◌, ℕ, ◌+◌, ◌<◌, ◌≤◌, Bool, true, false, cond, ltb, leb, List, [], ◌∷◌, ◌++◌, length, sym, refl, ap, ◌∙◌, subst, inl, inr, append_assoc, arith}
use Rattle.std.specs.List.{AllByRecursion}
use Rattle.std.proofs.ByRecursion.{All-weaker, All-append}
use Rattle.std.proofs.lemmas.List.{append-nil, length-map}
use Rattle.std.proofs.lemmas.Bool.{ltb-true, true≢false}
use Rattle.fifo.specs.Lists.{none}
use Rattle.subscriptions.specs.declared.figures.Figures.{Figures}
use Rattle.subscriptions.specs.declared.figures.Phase.{Phase}
use Rattle.subscriptions.specs.declared.figures.Phase.TheVariants.{Fresh, Quiet, Late, Ended}
use Rattle.subscriptions.specs.declared.figures.Outcome.TheVariants as outcome
use Rattle.subscriptions.specs.Facts.{live}
use Rattle.subscriptions.specs.Keys.{id_of}
use Rattle.subscriptions.specs.Changes.{standing, messaged, joined, late_from, runs, counted_down}
use Rattle.subscriptions.specs.Cycle.{due, Cycled, step1, step2, step3, step5, cycle}
use Rattle.items.specs.Item.{Item}
use Rattle.item_table.specs.declared.served.Served.{Served}
use Rattle.item_table.specs.Rising.{rising_by}
use Rattle.item_table.specs.Turn.{Turns, any_waits}
use Rattle.item_table.proofs.Orders.{both}
use Rattle.retransmission.specs.Rows.{Kept}
use Rattle.model.specs.Messages.{Sending, most_taken, taken, next_message, by_taken, message}
use Rattle.model.specs.Tick.{Shared, Passed, shared, asked, still_due, onward, messages, acts, cycles, counts, passes_live, passes, passes_all}
use Rattle.model.specs.Tick as tick
use Rattle.model.specs.Sound.{In, alive, live_ids}
use Rattle.soundness.proofs.Members.{drops, drops_between}
use Rattle.soundness.proofs.LiveIds.{live_id, live_first, same_first}
use Rattle.soundness.proofs.Kept.{Filled, rows_keeping}
use Rattle.soundness.proofs.Held.{Items, items_turns, turns_few, Held, held_ids, held_dropped}

-- a message carries at most 16 notifications
abbrev pub Limited : Figures → Type 0
Limited f = f.revised.limit ≤ 16

most_few : (f : Figures) → Limited f → most_taken f ≤ 16
most_few f l = at f.enabled
  where
    at : (b : Bool) → cond b f.revised.limit 0 ≤ 16
    at true = l
    at false = omega arith

some_sent : (ws : List Served) → none ws ≡ false → 1 ≤ length ws
some_sent [] e = absurd (true≢false e)
some_sent (w ∷ ws) e = omega arith

-- what is held before is held after
abbrev pub Holds : List Item → List Kept → List Item → List Kept → Type 0
Holds xs kept xs' kept' = (n : ℕ) (ids : List ℕ) → Held n ids xs kept → Held n ids xs' kept'

-- a message of a subscription
pub record SentOf (f : Figures) (xs : List Item) (kept : List Kept) (m : Sending) : Type 0 where
  pub same : m.figures.id ≡ f.id
  pub limited : Limited m.figures
  pub living : alive m.figures ≡ true
  pub held : Holds xs kept m.items m.kept

pub sent_of : (h : ℕ) (f : Figures) (xs : List Item) (kept : List Kept) → Limited f → SentOf f xs kept (message h f xs kept)
sent_of h f xs kept l = at (none (taken f xs).sent) refl
  where
    t : Turns
    t = taken f xs

    left : (n : ℕ) (ids : List ℕ) → Items n ids xs → Items n ids t.items
    left n ids q = items_turns n ids (most_taken f) f.id f.served xs q

    filled : none t.sent ≡ false → Filled (next_message (messaged f) t)
    filled e =
        let c = length-map t.sent (λ w. w.notification) in
        let p = some_sent t.sent e in
        let u = turns_few (most_taken f) f.id f.served xs in
        let v = most_few f l in
        (omega arith, omega arith)

    at : (b : Bool) → none t.sent ≡ b → SentOf f xs kept (by_taken b h (messaged f) t kept)
    at true e = record { same = refl; limited = l; living = refl; held = λ n ids q. record { items = left n ids q.items; rows = q.rows } }
    at false e =
        record {
          same = refl;
          limited = l;
          living = refl;
          held = λ n ids q. record { items = left n ids q.items; rows = rows_keeping ids kept f.id (next_message (messaged f) t) (filled e) q.rows };
        }

pub late_live : (p : Phase) → live p ≡ true → live (late_from p) ≡ true
late_live Fresh e = refl
late_live Quiet e = refl
late_live Late e = refl
late_live Ended e = e

-- a live subscription that sends in the pass
pub record PassedOf (f : Figures) (xs : List Item) (kept : List Kept) (p : Passed) : Type 0 where
  pub same : p.figures.id ≡ f.id
  pub living : alive p.figures ≡ true
  pub held : Holds xs kept p.shared.items p.shared.kept

pub messages_of_lem : (hs : List ℕ) (f : Figures) (xs : List Item) (kept : List Kept) (late : List ℕ) → alive f ≡ true → Limited f → PassedOf f xs kept (messages hs f xs kept late)
messages_of_lem [] f xs kept late a l = record { same = refl; living = late_live f.phase a; held = λ n ids q. q }
messages_of_lem (h ∷ hs) f xs kept late a l =
    let m = message h f xs kept in
    let s = sent_of h f xs kept l in
    at (still_due m) m s (messages hs m.figures m.items m.kept late) (messages_of_lem hs m.figures m.items m.kept late s.living s.limited)
  where
    at : (b : Bool) (m : Sending) → SentOf f xs kept m → (p : Passed) → PassedOf m.figures m.items m.kept p → PassedOf f xs kept (onward b m hs late p)
    at true m s p r = record { same = r.same ∙ s.same; living = r.living; held = λ n ids q. r.held n ids (s.held n ids q) }
    at false m s p r = record { same = s.same; living = s.living; held = s.held }

-- a cycle of a live subscription
pub data Cycling (f : Figures) : Cycled → Type 0 where
  rests : (g : Figures) → g.id ≡ f.id → alive g ≡ true → Cycling f (record { after = g; outcome = outcome.Rests })
  sends : (g : Figures) → g.id ≡ f.id → alive g ≡ true → g.revised ≡ f.revised → Cycling f (record { after = g; outcome = outcome.Sends })
  joins : (g : Figures) → g.id ≡ f.id → alive g ≡ true → Cycling f (record { after = g; outcome = outcome.Joins })
  ends : (g : Figures) → g.id ≡ f.id → alive g ≡ false → Cycling f (record { after = g; outcome = outcome.Ends })

cycling5 : (request waiting : Bool) (f : Figures) → alive f ≡ true → Cycling f (step5 request waiting f)
cycling5 request waiting f a = at (due waiting f)
  where
    by : (r : Bool) → Cycling f (cond r (record { after = messaged f; outcome = outcome.Sends }) (record { after = joined f; outcome = outcome.Joins }))
    by true = sends (messaged f) refl refl refl
    by false = joins (joined f) refl (late_live f.phase a)

    at : (b : Bool) → Cycling f (cond b (cond request (record { after = messaged f; outcome = outcome.Sends }) (record { after = joined f; outcome = outcome.Joins })) (record { after = f; outcome = outcome.Rests }))
    at true = by request
    at false = rests f refl a

-- the same from other figures with the id
restated : (f g : Figures) → g.id ≡ f.id → g.revised ≡ f.revised → (c : Cycled) → Cycling g c → Cycling f c
restated f g i v c (rests x j a) = rests x (j ∙ i) a
restated f g i v c (sends x j a w) = sends x (j ∙ i) a (w ∙ v)
restated f g i v c (joins x j a) = joins x (j ∙ i) a
restated f g i v c (ends x j a) = ends x (j ∙ i) a

cycling3 : (p : Phase) (request waiting : Bool) (f : Figures) → alive f ≡ true → Cycling f (step3 p request waiting f)
cycling3 Fresh request waiting f a = restated f (standing f.phase (f.quiet + 1) f.idle f) refl refl _ (cycling5 request waiting (standing f.phase (f.quiet + 1) f.idle f) a)
cycling3 Quiet request waiting f a = restated f (standing f.phase (f.quiet + 1) f.idle f) refl refl _ (cycling5 request waiting (standing f.phase (f.quiet + 1) f.idle f) a)
cycling3 Late request waiting f a = rests f refl a
cycling3 Ended request waiting f a = rests f refl a

cycling2 : (request waiting : Bool) (f : Figures) → alive f ≡ true → Cycling f (step2 request waiting f)
cycling2 request waiting f a = at (leb f.revised.lifetime f.idle)
  where
    at : (b : Bool) → Cycling f (cond b (record { after = standing Ended f.quiet f.idle f; outcome = outcome.Ends }) (step3 f.phase request waiting f))
    at true = ends (standing Ended f.quiet f.idle f) refl refl
    at false = cycling3 f.phase request waiting f a

pub cycling : (request waiting : Bool) (f : Figures) → alive f ≡ true → Cycling f (cycle request waiting f)
cycling request waiting f a = at (alive f) a
  where
    g : Figures
    g = standing f.phase f.quiet (cond request 0 (f.idle + 1)) f

    at : (b : Bool) → b ≡ true → Cycling f (cond b (step1 request waiting f) (record { after = f; outcome = outcome.Rests }))
    at true e = restated f g refl refl _ (cycling2 request waiting g a)
    at false e = absurd (true≢false (sym e))

-- one subscription in the pass: it stays as live as it was, or it ends and all of it goes
pub data Passing (f : Figures) (q : Shared) : Passed → Type 0 where
  stays : (p : Passed) → p.figures.id ≡ f.id → alive p.figures ≡ alive f → Holds q.items q.kept p.shared.items p.shared.kept → Passing f q p
  ended : (g : Figures) → g.id ≡ f.id → alive f ≡ true → alive g ≡ false → Passing f q (tick.ends g q)

acting : (f : Figures) (q : Shared) (c : Cycled) → alive f ≡ true → Limited f → Cycling f c → Passing f q (acts c.outcome c.after q)
acting f q c a l (rests g i b) = stays (tick.rests g q) i (b ∙ sym a) (λ n ids h. h)
acting f q c a l (joins g i b) = stays (tick.joins g q) i (b ∙ sym a) (λ n ids h. h)
acting f q c a l (ends g i b) = ended g i a b
acting f q c a l (sends g i b v) =
    let r = messages_of_lem q.requests g q.items q.kept q.late b (subst (λ w. w.limit ≤ 16) (sym v) l) in
    stays (messages q.requests g q.items q.kept q.late) (r.same ∙ i) (r.living ∙ sym a) r.held

-- the countdown changes neither
counted_passing : (f : Figures) (q : Shared) (p : Passed) → Passing (counted_down f) q p → Passing f q p
counted_passing f q p (stays p' i a h) = stays p' i a h
counted_passing f q p (ended g i a b) = ended g i a b

pub passing : (f : Figures) (q : Shared) → Limited f → Passing f q (passes f q)
passing f q l = at (alive f) refl
  where
    cycled : alive f ≡ true → Passing f q (cycles (counted_down f) q)
    cycled a =
        let g = counted_down f in
        counted_passing f q (cycles g q) (acting g q (cycle (asked q) (any_waits g.id q.items) g) a l (cycling (asked q) (any_waits g.id q.items) g a))

    count : (b : Bool) → alive f ≡ true → Passing f q (counts b f q)
    count true a = cycled a
    count false a = stays (tick.rests (counted_down f) q) refl refl (λ n ids h. h)

    at : (b : Bool) → alive f ≡ b → Passing f q (passes_live b f q)
    at true a = count (runs f) a
    at false a = stays (tick.rests f q) refl refl (λ n ids h. h)

-- the pass over all: `before` are the live ids that come before them, none above b
module _ (n : ℕ) where
  after_first : (before : List ℕ) (g : Figures) (fs : List Figures) → before ++ live_ids (g ∷ fs) ≡ (before ++ live_id g) ++ live_ids fs
  after_first before g fs = ap (λ l. before ++ l) (live_first g fs) ∙ sym (append_assoc before (live_id g) (live_ids fs))

  below_first : (b : ℕ) (before : List ℕ) (f g : Figures) → AllByRecursion (λ k. k ≤ b) before → b < f.id → g.id ≡ f.id → AllByRecursion (λ k. k ≤ f.id) (before ++ live_id g)
  below_first b before f g a l i = All-append (λ k. k ≤ f.id) before (live_id g) (All-weaker (λ k. k ≤ b) (λ k. k ≤ f.id) (λ k h. omega arith) before a) (at (alive g))
    where
      at : (t : Bool) → AllByRecursion (λ k. k ≤ f.id) (cond t (g.id ∷ []) [])
      at true = (omega arith, tt)
      at false = tt

  not_before : (b k : ℕ) (before : List ℕ) → AllByRecursion (λ j. j ≤ b) before → b < k → In k before → ⊥
  not_before b k [] a l h = h
  not_before b k (x ∷ before) a l (inl e) = let u = a.0 in omega arith
  not_before b k (x ∷ before) a l (inr h) = not_before b k before a.1 l h

  -- what the pass over one leaves, for those behind it
  step : (b : ℕ) (before : List ℕ) (f : Figures) (fs : List Figures) (q : Shared) (p : Passed) → AllByRecursion (λ k. k ≤ b) before → b < f.id → Passing f q p
      → Held n (before ++ live_ids (f ∷ fs)) q.items q.kept → (p.figures.id ≡ f.id) × Held n ((before ++ live_id p.figures) ++ live_ids fs) p.shared.items p.shared.kept
  step b before f fs q p a l (stays p' i v h) held = (
    i,
    h n ((before ++ live_id p'.figures) ++ live_ids fs)
        (held_ids n (before ++ live_ids (f ∷ fs)) ((before ++ live_id p'.figures) ++ live_ids fs) q.items q.kept
        (ap (λ m. (before ++ m) ++ live_ids fs) (same_first f p'.figures i v) ∙ sym (after_first before f fs))
        held),
  )
  step b before f fs q p a l (ended g i u v) held =
      let ids = before ++ live_ids (f ∷ fs) in
      let w : ids ≡ before ++ g.id ∷ live_ids fs = ap (λ m. before ++ m) (live_first f fs ∙ ap (λ t. cond t (f.id ∷ []) [] ++ live_ids fs) u) ∙ ap (λ k. before ++ k ∷ live_ids fs) (sym i) in
      let o : In g.id before → ⊥ = not_before b g.id before a (omega arith) in
      let x : (before ++ live_id g) ++ live_ids fs ≡ drops g.id ids = ap (λ t. (before ++ cond t (g.id ∷ []) []) ++ live_ids fs) v ∙ ap (λ m. m ++ live_ids fs) (append-nil before) ∙ sym (ap (drops g.id) w ∙ drops_between g.id before (live_ids fs) o) in (
        i,
        held_ids n (drops g.id ids) ((before ++ live_id g) ++ live_ids fs) _ _ x (held_dropped n ids q.items q.kept g.id held),
      )

  pub passed_held : (b : ℕ) (before : List ℕ) (fs : List Figures) (q : Shared) → AllByRecursion (λ k. k ≤ b) before → rising_by id_of b fs ≡ true → AllByRecursion Limited fs → Held n (before ++ live_ids fs) q.items q.kept
      → Held n (before ++ live_ids (passes_all fs q).subscriptions) (passes_all fs q).shared.items (passes_all fs q).shared.kept
  passed_held b before [] q a r l h = h
  passed_held b before (f ∷ fs) q a r l h =
      let p = passes f q in
      let c = both (ltb b f.id) (rising_by id_of f.id fs) r in
      let lt : b < f.id = ltb-true b f.id c.0 in
      let s = step b before f fs q p a lt (passing f q l.0) h in
      let rest = passes_all fs p.shared in
      held_ids n ((before ++ live_id p.figures) ++ live_ids rest.subscriptions) (before ++ live_ids (p.figures ∷ rest.subscriptions)) rest.shared.items rest.shared.kept
      (after_first before p.figures rest.subscriptions)
      (passed_held f.id (before ++ live_id p.figures) fs p.shared (below_first b before f p.figures a lt s.0) c.1 l.1 s.1)
