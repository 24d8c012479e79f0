-- What every subscription record keeps.
use Rattle.std.specs.Prelude.{◌≡◌, Bool, true, false, ◌*◌, ◌≤◌, ◌<◌}
use Rattle.subscriptions.specs.declared.figures.Figures.{Figures}
use Rattle.subscriptions.specs.declared.figures.Phase.{Phase}
use Rattle.subscriptions.specs.declared.figures.Phase.TheVariants.{Fresh, Quiet, Late, Ended}

-- not on the late list
abbrev pub prompt : Phase → Bool
prompt Fresh = true
prompt Quiet = true
prompt Late = false
prompt Ended = false

-- not ended
abbrev pub live : Phase → Bool
live Fresh = true
live Quiet = true
live Late = true
live Ended = false

-- the countdown runs within the publishing interval
abbrev pub Timely : Figures → Type 0
Timely f = (1 ≤ f.countdown) × (f.countdown ≤ f.revised.interval) × (f.revised.interval ≤ 60000)

-- the lifetime count is at least three keep-alive counts
abbrev pub Lasting : Figures → Type 0
Lasting f = (1 ≤ f.revised.keep_alive) × (f.revised.keep_alive ≤ 1000) × (3 * f.revised.keep_alive ≤ f.revised.lifetime) × (f.revised.lifetime ≤ 30000)

-- a message carries 1 to 16 notifications, and numbers begin at 1
abbrev pub Numbered : Figures → Type 0
Numbered f = (1 ≤ f.revised.limit) × (f.revised.limit ≤ 16) × (1 ≤ f.number)

-- off the late list idle is at most quiet and below the keep-alive count; a live subscription is idle for less than its lifetime
abbrev pub Counted : Figures → Type 0
Counted f =
    (prompt f.phase ≡ true → (f.idle ≤ f.quiet) × (f.idle < f.revised.keep_alive) × (f.quiet < 1000))
    × (live f.phase ≡ true → f.idle < f.revised.lifetime)
    × (f.idle ≤ f.revised.lifetime)
    × (f.quiet ≤ 1000)
