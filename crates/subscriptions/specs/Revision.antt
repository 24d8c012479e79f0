-- The revised figures of a subscription.
use Rattle.std.specs.Prelude.{cond, ℕ, ◌*◌, min, max, eqb}
use Rattle.values.specs.Ticks.{ticks_of}
use Rattle.subscriptions.specs.declared.figures.Revised.{Revised}
use Rattle.subscriptions.specs.declared.parameters.SubscriptionParameters.{SubscriptionParameters}
use Rattle.subscriptions.specs.declared.parameters.RevisedSubscription.{RevisedSubscription}

-- the keep-alive count, held within 1 to 1,000
abbrev pub keep_alive_count : ℕ → ℕ
keep_alive_count k = max 1 (min k 1000)

-- the lifetime count, at least three revised keep-alive counts and at most 30,000
abbrev pub lifetime_count : ℕ → ℕ → ℕ
lifetime_count k l = min (max l (3 * keep_alive_count k)) 30000

-- the notifications of a message: 0 and more than 16 ask for 16
abbrev pub notification_limit : ℕ → ℕ
notification_limit m = cond (eqb m 0) 16 (min m 16)

abbrev pub revision : SubscriptionParameters → Revised
revision p = record { interval = ticks_of p.milliseconds; keep_alive = keep_alive_count p.keep_alive; lifetime = lifetime_count p.keep_alive p.lifetime; limit = notification_limit p.limit }

-- what a client is told: the interval in ticks and the two counts
abbrev pub answer_of : Revised → RevisedSubscription
answer_of r = record { interval = r.interval; keep_alive = r.keep_alive; lifetime = r.lifetime }
