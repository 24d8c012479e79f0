-- The table of subscriptions.
use Rattle.std.specs.Prelude.{false, List, map}
use Rattle.fifo.specs.Bounded.{items}
use Rattle.subscriptions.specs.declared.figures.Figures.{Figures}
use Rattle.subscriptions.specs.declared.figures.Phase.TheVariants.{Fresh}
use Rattle.subscriptions.specs.Keys.{figures_of}
use Rattle.subscription_table.specs.declared.table.Table.{Table}

-- the occupied slots, in the order of creation
abbrev pub slots : Table → List Figures
slots t = map figures_of (items t.rows)

-- stands for no subscription
abbrev pub blank : Figures
blank = record { id = 0; revised = record { interval = 0; keep_alive = 0; lifetime = 0; limit = 0 }; enabled = false; countdown = 0; phase = Fresh; quiet = 0; idle = 0; number = 0; served = 0 }
