-- A message, and the turn of a subscription in a tick, by their cases.
use Rattle.std.proofs.Common.{◌≡◌, ℕ, ◌+◌, ◌<◌, Bool, true, false, cond, leb, ◌⊎◌, List, [], ◌∷◌, sym, refl, ap, ◌∙◌, inl, inr, arith}
use Rattle.std.proofs.lemmas.Bool.{true≢false, leb-true, leb-false}
use Rattle.fifo.specs.Lists.{none}
use Rattle.subscriptions.specs.declared.figures.Figures.{Figures}
use Rattle.subscriptions.specs.declared.figures.Phase.{Phase}
use Rattle.subscriptions.specs.declared.figures.Phase.TheVariants.{Fresh, Quiet, Late, Ended}
use Rattle.subscriptions.specs.declared.figures.Outcome.TheVariants.{Rests, Sends, Joins, Ends}
use Rattle.subscriptions.specs.Facts.{prompt, live}
use Rattle.subscriptions.specs.Changes.{standing, messaged, joined, runs, counted_down}
use Rattle.subscriptions.specs.Cycle.{Cycled, due, step1, step3}
use Rattle.items.specs.Item.{Item}
use Rattle.item_table.specs.Turn.{any_waits}
use Rattle.messages.specs.declared.response.Response.{Response}
use Rattle.retransmission.specs.Rows.{Kept, keeping_for}
use Rattle.model.specs.Messages.{Sending, taken, keeps_alive, notifies, next_message, by_taken, message}
use Rattle.model.specs.Tick.{Shared, shared, Passed, rests, joins, ends, sent_before, still_due, onward, messages, acts, asked, counts, passes_live, passes}
use Rattle.model.specs.Sound.{Bounded}
use Rattle.soundness.proofs.Bounds.{messaged_bounded, used_bounded}

-- the request that a response answers
abbrev pub handle_of : Response → ℕ
handle_of r = r.handle

-- a message: a keep-alive where nothing is taken, and notifications else
pub data Messaged (h : ℕ) (f : Figures) (xs : List Item) (kept : List Kept) : Sending → Type 0 where
  alive : none (taken f xs).sent ≡ true → Messaged h f xs kept (keeps_alive h (messaged f) (taken f xs).items kept)
  notified : none (taken f xs).sent ≡ false → Messaged h f xs kept (notifies h (messaged f) (taken f xs) (keeping_for f.id (next_message (messaged f) (taken f xs)) kept))

module _ (h : ℕ) (f : Figures) (xs : List Item) (kept : List Kept) where
  pub message_cases : Messaged h f xs kept (message h f xs kept)
  message_cases = at (none (taken f xs).sent) refl
    where
      at : (b : Bool) → none (taken f xs).sent ≡ b → Messaged h f xs kept (by_taken b h (messaged f) (taken f xs) kept)
      at true e = alive e
      at false e = notified e

  -- what a message does not change, and where it leaves the subscription
  pub record Carried (m : Sending) : Type 0 where
    pub id : m.figures.id ≡ f.id
    pub revised : m.figures.revised ≡ f.revised
    pub enabled : m.figures.enabled ≡ f.enabled
    pub phase : m.figures.phase ≡ Quiet
    pub idle : m.figures.idle ≡ 0
    pub quiet : m.figures.quiet ≡ 0
    pub countdown : m.figures.countdown ≡ f.countdown
    pub handle : m.response.handle ≡ h
    pub subscription : m.response.subscription ≡ f.id
    pub bounded : Bounded f → Bounded m.figures

  pub carried : (m : Sending) → Messaged h f xs kept m → Carried m
  carried m (alive e) =
      record { id = refl; revised = refl; enabled = refl; phase = refl; idle = refl; quiet = refl; countdown = refl; handle = refl; subscription = refl; bounded = λ b. messaged_bounded f b }
  carried m (notified e) =
      record { id = refl; revised = refl; enabled = refl; phase = refl; idle = refl; quiet = refl; countdown = refl; handle = refl; subscription = refl; bounded = λ b. used_bounded (taken f xs).last (messaged f) (messaged_bounded f b) }

  pub message_carried : Carried (message h f xs kept)
  message_carried = carried (message h f xs kept) message_cases

-- messages while one is due; where one is due and no request is left, a place on the late list
pub data Messaging : List ℕ → Figures → List Item → List Kept → List ℕ → Passed → Type 0 where
  no_request : (f : Figures) (xs : List Item) (kept : List Kept) (late : List ℕ) → Messaging [] f xs kept late (joins (joined f) (shared xs kept [] late))
  final : (h : ℕ) (hs : List ℕ) (f : Figures) (xs : List Item) (kept : List Kept) (late : List ℕ) → still_due (message h f xs kept) ≡ false →
      Messaging (h ∷ hs) f xs kept late (sent_before (message h f xs kept) (rests (message h f xs kept).figures (shared (message h f xs kept).items (message h f xs kept).kept hs late)))
  further : (h : ℕ) (hs : List ℕ) (f : Figures) (xs : List Item) (kept : List Kept) (late : List ℕ) (p : Passed) → still_due (message h f xs kept) ≡ true →
      Messaging hs (message h f xs kept).figures (message h f xs kept).items (message h f xs kept).kept late p → Messaging (h ∷ hs) f xs kept late (sent_before (message h f xs kept) p)

pub messaging : (hs : List ℕ) (f : Figures) (xs : List Item) (kept : List Kept) (late : List ℕ) → Messaging hs f xs kept late (messages hs f xs kept late)
messaging [] f xs kept late = no_request f xs kept late
messaging (h ∷ hs) f xs kept late =
    at (still_due (message h f xs kept)) refl (messages hs (message h f xs kept).figures (message h f xs kept).items (message h f xs kept).kept late)
    (messaging hs (message h f xs kept).figures (message h f xs kept).items (message h f xs kept).kept late)
  where
    at : (b : Bool) → still_due (message h f xs kept) ≡ b → (p : Passed) → Messaging hs (message h f xs kept).figures (message h f xs kept).items (message h f xs kept).kept late p →
        Messaging (h ∷ hs) f xs kept late (onward b (message h f xs kept) hs late p)
    at true e p ih = further h hs f xs kept late p e ih
    at false e p ih = final h hs f xs kept late e

-- idle after the first step of a cycle
abbrev pub idle_after : Shared → Figures → ℕ
idle_after q f = cond (asked q) 0 (f.idle + 1)

-- the record after the first step of a cycle
abbrev pub idled : Shared → Figures → Figures
idled q f = standing f.phase f.quiet (idle_after q f) (counted_down f)

-- the record after the fourth step of a cycle
abbrev pub quieted : Shared → Figures → Figures
quieted q f = standing f.phase (f.quiet + 1) (idle_after q f) (counted_down f)

abbrev pub waiting : Figures → Shared → Bool
waiting f q = any_waits f.id q.items

pub data Passing (f : Figures) (q : Shared) : Passed → Type 0 where
  -- an ended one has no cycle
  over : live f.phase ≡ false → Passing f q (rests f q)
  -- no cycle runs
  counting : live f.phase ≡ true → runs f ≡ false → Passing f q (rests (counted_down f) q)
  -- a late one stays late
  lasting : f.phase ≡ Late → runs f ≡ true → idle_after q f < f.revised.lifetime → Passing f q (rests (idled q f) q)
  -- a late one ends
  ending : f.phase ≡ Late → runs f ≡ true → asked q ≡ false → idle_after q f ≡ f.revised.lifetime → Passing f q (ends (standing Ended f.quiet (idle_after q f) (counted_down f)) q)
  -- nothing is due
  quieting : prompt f.phase ≡ true → runs f ≡ true → due (waiting f q) (quieted q f) ≡ false → Passing f q (rests (quieted q f) q)
  -- a message is due
  sending : prompt f.phase ≡ true → runs f ≡ true → due (waiting f q) (quieted q f) ≡ true → asked q ≡ true → (p : Passed) →
      Messaging q.requests (messaged (quieted q f)) q.items q.kept q.late p → Passing f q p
  -- a message is due, and no request is queued
  joining : prompt f.phase ≡ true → runs f ≡ true → due (waiting f q) (quieted q f) ≡ true → asked q ≡ false → Passing f q (joins (joined (quieted q f)) q)

pub late_live : (p : Phase) → p ≡ Late → live p ≡ true
late_live p e = ap live e

pub prompt_live : (p : Phase) → prompt p ≡ true → live p ≡ true
prompt_live Fresh e = refl
prompt_live Quiet e = refl
prompt_live Late e = absurd (true≢false (sym e))
prompt_live Ended e = absurd (true≢false (sym e))

-- what comes of a cycle
abbrev acted : Cycled → Shared → Passed
acted c q = acts c.outcome c.after q

module _ (f : Figures) (q : Shared) (b : Bounded f) where
  idle_cases : (t : Bool) → asked q ≡ t → ((asked q ≡ true) × (idle_after q f ≡ 0)) ⊎ ((asked q ≡ false) × (idle_after q f ≡ f.idle + 1))
  idle_cases true e = inl (e, ap (λ t. cond t 0 (f.idle + 1)) e)
  idle_cases false e = inr (e, ap (λ t. cond t 0 (f.idle + 1)) e)

  -- off the late list a subscription never ends
  prompt_lasts : prompt f.phase ≡ true → leb f.revised.lifetime (idle_after q f) ≡ true → ⊥
  prompt_lasts p e =
      let l = leb-true f.revised.lifetime (idle_after q f) e in
      let w = b.1 in
      let c = b.3.0 p in
      elim (idle_cases (asked q) refl) [ inl x ↦ (let i = x.1 in omega (arith, i)) | inr x ↦ (let i = x.1 in omega (arith, i)) ]

  late_ends : f.phase ≡ Late → leb f.revised.lifetime (idle_after q f) ≡ true → (asked q ≡ false) × (idle_after q f ≡ f.revised.lifetime)
  late_ends p e =
      let l = leb-true f.revised.lifetime (idle_after q f) e in
      let w = b.1 in
      let c = b.3.1 (late_live f.phase p) in
      elim (idle_cases (asked q) refl) [ inl x ↦ absurd (let i = x.1 in omega (arith, i)) | inr x ↦ (x.0, (let i = x.1 in omega (arith, i))) ]

  due_cases : (t : Bool) → prompt f.phase ≡ true → runs f ≡ true → due (waiting f q) (quieted q f) ≡ t →
      Passing f q (acted (cond t (cond (asked q) (record { after = messaged (quieted q f); outcome = Sends }) (record { after = joined (quieted q f); outcome = Joins })) (record { after = quieted q f; outcome = Rests })) q)
  due_cases true p r d = at (asked q) refl
    where
      at : (t : Bool) → asked q ≡ t → Passing f q (acted (cond t (record { after = messaged (quieted q f); outcome = Sends }) (record { after = joined (quieted q f); outcome = Joins })) q)
      at true a = sending p r d a _ (messaging q.requests (messaged (quieted q f)) q.items q.kept q.late)
      at false a = joining p r d a
  due_cases false p r d = quieting p r d

  phase_cases : (p : Phase) → f.phase ≡ p → live f.phase ≡ true → runs f ≡ true → leb f.revised.lifetime (idle_after q f) ≡ false → Passing f q (acted (step3 p (asked q) (waiting f q) (idled q f)) q)
  phase_cases Fresh e v r l = due_cases (due (waiting f q) (quieted q f)) (ap prompt e) r refl
  phase_cases Quiet e v r l = due_cases (due (waiting f q) (quieted q f)) (ap prompt e) r refl
  phase_cases Late e v r l = lasting e r (leb-false f.revised.lifetime (idle_after q f) l)
  phase_cases Ended e v r l = absurd (true≢false (sym v ∙ ap live e))

  end_cases : (t : Bool) → leb f.revised.lifetime (idle_after q f) ≡ t → live f.phase ≡ true → runs f ≡ true →
      Passing f q (acted (cond t (record { after = standing Ended f.quiet (idle_after q f) (counted_down f); outcome = Ends }) (step3 f.phase (asked q) (waiting f q) (idled q f))) q)
  end_cases false l v r = phase_cases f.phase refl v r l
  end_cases true l v r = at f.phase refl
    where
      at : (p : Phase) → f.phase ≡ p → Passing f q (ends (standing Ended f.quiet (idle_after q f) (counted_down f)) q)
      at Fresh e = absurd (prompt_lasts (ap prompt e) l)
      at Quiet e = absurd (prompt_lasts (ap prompt e) l)
      at Late e = let x = late_ends e l in ending e r x.0 x.1
      at Ended e = absurd (true≢false (sym v ∙ ap live e))

  live_cases : (t : Bool) → live f.phase ≡ t → live f.phase ≡ true → runs f ≡ true →
      Passing f q (acted (cond t (step1 (asked q) (waiting f q) (counted_down f)) (record { after = counted_down f; outcome = Rests })) q)
  live_cases true e v r = end_cases (leb f.revised.lifetime (idle_after q f)) refl v r
  live_cases false e v r = absurd (true≢false (sym v ∙ e))

  count_cases : (t : Bool) → runs f ≡ t → live f.phase ≡ true → Passing f q (counts t f q)
  count_cases true r v = live_cases (live f.phase) refl v r
  count_cases false r v = counting v r

  pub passing : Passing f q (passes f q)
  passing = at (live f.phase) refl
    where
      at : (t : Bool) → live f.phase ≡ t → Passing f q (passes_live t f q)
      at true v = count_cases (runs f) refl v
      at false v = over v
