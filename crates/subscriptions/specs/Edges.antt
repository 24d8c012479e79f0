-- The figures at the edges.
use Rattle.std.specs.Prelude.{◌≡◌, Bool, false, ℕ, zero, suc, ℤ, pos, negsuc}
use Rattle.values.specs.Ticks.{ticks_of}
use Rattle.subscriptions.specs.declared.figures.Figures.{Figures}
use Rattle.subscriptions.specs.declared.figures.Phase.TheVariants.{Late, Ended}
use Rattle.subscriptions.specs.declared.parameters.SubscriptionParameters.{SubscriptionParameters}
use Rattle.subscriptions.specs.Revision.{keep_alive_count, lifetime_count, revision}
use Rattle.subscriptions.specs.Changes.{created, following}
use Rattle.subscriptions.specs.Cycle.{cycle}

-- the counts k and l, with an interval and a limit
abbrev pub asking : ℤ → ℕ → ℕ → ℕ → SubscriptionParameters
asking ms k l m = record { milliseconds = ms; keep_alive = k; lifetime = l; limit = m }

-- after n cycles that find no request
abbrev pub unanswered : ℕ → Bool → Figures → Figures
unanswered zero waiting f = f
unanswered (suc n) waiting f = unanswered n waiting (cycle false waiting f).after

-- a keep-alive count of 1 and a lifetime count of 3, with no request: late at the first cycle, ended at the third
abbrev pub Shortest : Type 0
Shortest =
    (id m : ℕ) (ms : ℤ) (enabled waiting : Bool) →
    ((unanswered 1 waiting (created id (revision (asking ms 1 3 m)) enabled)).phase ≡ Late)
    × ((unanswered 2 waiting (created id (revision (asking ms 1 3 m)) enabled)).phase ≡ Late)
    × ((unanswered 3 waiting (created id (revision (asking ms 1 3 m)) enabled)).phase ≡ Ended)

abbrev pub EdgeFigures : Type 0
EdgeFigures =
    (ticks_of (pos 0) ≡ 1)
    × (ticks_of (pos 50) ≡ 1)
    × (ticks_of (pos 51) ≡ 2)
    × (ticks_of (pos 2147483647) ≡ 60000)
    × (ticks_of (negsuc 2147483647) ≡ 1)
    × (keep_alive_count 0 ≡ 1)
    × (lifetime_count 2 5 ≡ 6)
    × (following 4294967295 ≡ 1)
    × Shortest
