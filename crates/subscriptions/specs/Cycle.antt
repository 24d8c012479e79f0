-- The publishing cycle, in five steps. Of the fifth it tells the first message or the place on the late list; messages after
-- the first are up to the caller.
use Rattle.std.specs.Prelude.{Bool, true, false, cond, ◌&&◌, ◌||◌, ◌+◌, leb}
use Rattle.subscriptions.specs.declared.figures.Figures.{Figures}
use Rattle.subscriptions.specs.declared.figures.Phase.{Phase}
use Rattle.subscriptions.specs.declared.figures.Phase.TheVariants.{Fresh, Quiet, Late, Ended}
use Rattle.subscriptions.specs.declared.figures.Outcome.{Outcome}
use Rattle.subscriptions.specs.declared.figures.Outcome.TheVariants.{Rests, Sends, Joins, Ends}
use Rattle.subscriptions.specs.Facts.{live}
use Rattle.subscriptions.specs.Changes.{standing, messaged, joined}

-- nothing sent yet
abbrev pub fresh : Phase → Bool
fresh Fresh = true
fresh Quiet = false
fresh Late = false
fresh Ended = false

-- due: fresh, quiet for the keep-alive count, or publishing is enabled and something waits
abbrev pub due : Bool → Figures → Bool
due waiting f = fresh f.phase || (leb f.revised.keep_alive f.quiet || (f.enabled && waiting))

-- what a cycle leaves, and what comes of it
pub record Cycled : Type 0 where
  pub after : Figures
  pub outcome : Outcome

-- 5. where a message is due: a message with the oldest request, or the late list where no request is queued
abbrev pub step5 : Bool → Bool → Figures → Cycled
step5 request waiting f =
    cond (due waiting f)
    (cond request (record { after = messaged f; outcome = Sends }) (record { after = joined f; outcome = Joins }))
    (record { after = f; outcome = Rests })

-- 4. quiet is one more
abbrev pub step4 : Bool → Bool → Figures → Cycled
step4 request waiting f = step5 request waiting (standing f.phase (f.quiet + 1) f.idle f)

-- 3. a late subscription stops here
abbrev pub step3 : Phase → Bool → Bool → Figures → Cycled
step3 Fresh request waiting f = step4 request waiting f
step3 Quiet request waiting f = step4 request waiting f
step3 Late request waiting f = record { after = f; outcome = Rests }
step3 Ended request waiting f = record { after = f; outcome = Rests }

-- 2. idle for the lifetime count: ended
abbrev pub step2 : Bool → Bool → Figures → Cycled
step2 request waiting f =
    cond (leb f.revised.lifetime f.idle)
    (record { after = standing Ended f.quiet f.idle f; outcome = Ends })
    (step3 f.phase request waiting f)

-- 1. a request is queued: idle is 0, else one more
abbrev pub step1 : Bool → Bool → Figures → Cycled
step1 request waiting f = step2 request waiting (standing f.phase f.quiet (cond request 0 (f.idle + 1)) f)

-- the cycle of a live subscription; an ended one has none
abbrev pub cycle : Bool → Bool → Figures → Cycled
cycle request waiting f = cond (live f.phase) (step1 request waiting f) (record { after = f; outcome = Rests })
