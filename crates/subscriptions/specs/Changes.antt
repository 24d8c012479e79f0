-- How calls, messages and ticks change a subscription's figures.
use Rattle.std.specs.Prelude.{Bool, cond, ℕ, ◌+◌, ◌-◌, min, eqb}
use Rattle.subscriptions.specs.declared.figures.Revised.{Revised}
use Rattle.subscriptions.specs.declared.figures.Figures.{Figures}
use Rattle.subscriptions.specs.declared.figures.Phase.{Phase}
use Rattle.subscriptions.specs.declared.figures.Phase.TheVariants.{Fresh, Quiet, Late, Ended}

-- a new subscription: the first cycle after one interval, the first number 1
abbrev pub created : ℕ → Revised → Bool → Figures
created id r enabled = record { id = id; revised = r; enabled = enabled; countdown = r.interval; phase = Fresh; quiet = 0; idle = 0; number = 1; served = 0 }

-- other figures: the countdown is held within the new interval
abbrev pub modified : Revised → Figures → Figures
modified r f = record { id = f.id; revised = r; enabled = f.enabled; countdown = min f.countdown r.interval; phase = f.phase; quiet = f.quiet; idle = 0; number = f.number; served = f.served }

-- publishing enabled or disabled
abbrev pub publishing : Bool → Figures → Figures
publishing enabled f = record { id = f.id; revised = f.revised; enabled = enabled; countdown = f.countdown; phase = f.phase; quiet = f.quiet; idle = 0; number = f.number; served = f.served }

-- named by a call
abbrev pub named : Figures → Figures
named f = publishing f.enabled f

-- the sequence number after n: 1 follows the largest
abbrev pub following : ℕ → ℕ
following n = cond (eqb n 4294967295) 1 (n + 1)

-- a message used its number
abbrev pub number_used : Figures → Figures
number_used f = record { id = f.id; revised = f.revised; enabled = f.enabled; countdown = f.countdown; phase = f.phase; quiet = f.quiet; idle = f.idle; number = following f.number; served = f.served }

-- an item was served
abbrev pub served_last : ℕ → Figures → Figures
served_last id f = record { id = f.id; revised = f.revised; enabled = f.enabled; countdown = f.countdown; phase = f.phase; quiet = f.quiet; idle = f.idle; number = f.number; served = id }

-- the figures with another phase, quiet and idle
abbrev pub standing : Phase → ℕ → ℕ → Figures → Figures
standing p quiet idle f = record { id = f.id; revised = f.revised; enabled = f.enabled; countdown = f.countdown; phase = p; quiet = quiet; idle = idle; number = f.number; served = f.served }

-- a message: quiet and idle are 0, and the subscription is no longer fresh
abbrev pub messaged : Figures → Figures
messaged f = standing Quiet 0 0 f

-- late, unless ended
abbrev pub late_from : Phase → Phase
late_from Fresh = Late
late_from Quiet = Late
late_from Late = Late
late_from Ended = Ended

-- on the late list
abbrev pub joined : Figures → Figures
joined f = standing (late_from f.phase) f.quiet f.idle f

-- whether the countdown of one tick comes to 0, so that a cycle runs
abbrev pub runs : Figures → Bool
runs f = eqb (f.countdown - 1) 0

-- the countdown of one tick: at 0 it is the interval again
abbrev pub counted_down : Figures → Figures
counted_down f = record { id = f.id; revised = f.revised; enabled = f.enabled; countdown = cond (runs f) f.revised.interval (f.countdown - 1); phase = f.phase; quiet = f.quiet; idle = f.idle; number = f.number; served = f.served }
