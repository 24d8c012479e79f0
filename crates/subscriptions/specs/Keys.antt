-- The key of a subscription.
use Rattle.std.specs.Prelude.{ℕ}
use Rattle.subscriptions.specs.declared.figures.Figures.{Figures}
use Rattle.subscriptions.specs.declared.subscription.Subscription.{Subscription}

-- the figures without the facts on them
abbrev pub figures_of : Subscription → Figures
figures_of s = s.figures

abbrev pub id_of : Figures → ℕ
id_of f = f.id
