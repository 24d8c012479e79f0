-- The bounds of a subscription's figures stay through every change.
use Rattle.std.proofs.Common.{◌≡◌, ℕ, ◌+◌, ◌-◌, ◌*◌, ◌/◌, ◌≤◌, min, max, Bool, true, false, cond, eqb, ℤ, pos, negsuc, sym, refl, ◌∙◌, arith}
use Rattle.std.proofs.lemmas.Bool.{eqb-false, true≢false}
use Rattle.values.specs.Ticks.{ticks_of}
use Rattle.subscriptions.specs.declared.figures.Figures.{Figures}
use Rattle.subscriptions.specs.declared.figures.Revised.{Revised}
use Rattle.subscriptions.specs.declared.figures.Phase.{Phase}
use Rattle.subscriptions.specs.declared.figures.Phase.TheVariants.{Fresh, Quiet, Late, Ended}
use Rattle.subscriptions.specs.Facts.{prompt, live, Timely, Counted}
use Rattle.subscriptions.specs.Revision.{revision, notification_limit}
use Rattle.subscriptions.specs.Changes.{created, modified, publishing, named, following, number_used, served_last, standing, messaged, late_from, joined, runs, counted_down}
use Rattle.subscriptions.specs.declared.parameters.SubscriptionParameters.{SubscriptionParameters}
use Rattle.model.specs.Sound.{Bounded}

-- the revised figures are within their bounds
abbrev pub WithinBounds : Revised → Type 0
WithinBounds r = (1 ≤ r.interval) × (r.interval ≤ 60000) × (1 ≤ r.keep_alive) × (r.keep_alive ≤ 1000) × (3 * r.keep_alive ≤ r.lifetime) × (r.lifetime ≤ 30000) × (1 ≤ r.limit) × (r.limit ≤ 16)

ticks_bounds : (ms : ℤ) → (1 ≤ ticks_of ms) × (ticks_of ms ≤ 60000)
ticks_bounds (pos n) = at ((n + 49) / 50)
  where
    at : (k : ℕ) → (1 ≤ max 1 (min k 60000)) × (max 1 (min k 60000) ≤ 60000)
    at k = (omega arith, omega arith)
ticks_bounds (negsuc n) = (omega arith, omega arith)

limit_bounds : (m : ℕ) → (1 ≤ notification_limit m) × (notification_limit m ≤ 16)
limit_bounds m = at (eqb m 0) refl
  where
    at : (b : Bool) → eqb m 0 ≡ b → (1 ≤ cond b 16 (min m 16)) × (cond b 16 (min m 16) ≤ 16)
    at true e = (omega arith, omega arith)
    at false e = let n = eqb-false m 0 e in (omega (arith, n), omega arith)

pub revision_bounds : (p : SubscriptionParameters) → WithinBounds (revision p)
revision_bounds p =
    let t = ticks_bounds p.milliseconds in
    let n = limit_bounds p.limit in
    (t.0, t.1, omega arith, omega arith, omega arith, omega arith, n.0, n.1)

pub created_bounded : (id : ℕ) (r : Revised) (enabled : Bool) → WithinBounds r → Bounded (created id r enabled)
created_bounded id r enabled w =
    ((w.0, omega arith, w.1), (w.2, w.3, w.4, w.5), (w.6, w.7, omega arith), ((λ z. (omega arith, w.2, omega arith)), (λ z. omega arith), omega arith, omega arith))

pub modified_bounded : (r : Revised) (f : Figures) → WithinBounds r → Bounded f → Bounded (modified r f)
modified_bounded r f w b =
    let t = b.0 in
    let c = b.3 in
    ((omega arith, omega arith, w.1), (w.2, w.3, w.4, w.5), (w.6, w.7, b.2.2), ((λ z. let p = c.0 z in (omega arith, w.2, p.2)), (λ z. omega arith), omega arith, c.3))

pub publishing_bounded : (enabled : Bool) (f : Figures) → Bounded f → Bounded (publishing enabled f)
publishing_bounded enabled f b =
    let l = b.1 in
    let c = b.3 in
    (b.0, b.1, b.2, ((λ z. let p = c.0 z in (omega arith, l.0, p.2)), (λ z. omega arith), omega arith, c.3))

pub named_bounded : (f : Figures) → Bounded f → Bounded (named f)
named_bounded f b = publishing_bounded f.enabled f b

-- numbers begin at 1
pub following_positive : (n : ℕ) → 1 ≤ following n
following_positive n = at (eqb n 4294967295)
  where
    at : (b : Bool) → 1 ≤ cond b 1 (n + 1)
    at true = omega arith
    at false = omega arith

pub used_bounded : (last : ℕ) (f : Figures) → Bounded f → Bounded (served_last last (number_used f))
used_bounded last f b = (b.0, b.1, (b.2.0, b.2.1, following_positive f.number), b.3)

-- another phase, quiet and idle
pub standing_bounded : (p : Phase) (quiet idle : ℕ) (f : Figures) → Bounded f → Counted (standing p quiet idle f) → Bounded (standing p quiet idle f)
standing_bounded p quiet idle f b c = (b.0, b.1, b.2, c)

pub messaged_bounded : (f : Figures) → Bounded f → Bounded (messaged f)
messaged_bounded f b = let l = b.1 in (b.0, b.1, b.2, ((λ z. (omega arith, l.0, omega arith)), (λ z. omega arith), omega arith, omega arith))

late_prompt : (p : Phase) → prompt (late_from p) ≡ false
late_prompt Fresh = refl
late_prompt Quiet = refl
late_prompt Late = refl
late_prompt Ended = refl

pub joined_prompt : (f : Figures) → prompt (joined f).phase ≡ false
joined_prompt f = late_prompt f.phase

late_live : (p : Phase) → live (late_from p) ≡ live p
late_live Fresh = refl
late_live Quiet = refl
late_live Late = refl
late_live Ended = refl

pub joined_live : (f : Figures) → live (joined f).phase ≡ live f.phase
joined_live f = late_live f.phase

pub joined_bounded : (f : Figures) → Bounded f → Bounded (joined f)
joined_bounded f b =
    let c = b.3 in
    (b.0, b.1, b.2, ((λ z. absurd (true≢false (sym z ∙ joined_prompt f))), (λ z. c.1 (sym (joined_live f) ∙ z)), c.2, c.3))

-- the countdown of a tick: at 0 it is the interval again
pub counted_timely : (f : Figures) → Timely f → Timely (counted_down f)
counted_timely f t = at (runs f) refl
  where
    at : (b : Bool) → runs f ≡ b → (1 ≤ cond b f.revised.interval (f.countdown - 1)) × (cond b f.revised.interval (f.countdown - 1) ≤ f.revised.interval) × (f.revised.interval ≤ 60000)
    at true e = (omega arith, omega arith, t.2)
    at false e = let n = eqb-false (f.countdown - 1) 0 e in (omega (arith, n), omega arith, t.2)

pub counted_bounded : (f : Figures) → Bounded f → Bounded (counted_down f)
counted_bounded f b = (counted_timely f b.0, b.1, b.2, b.3)
