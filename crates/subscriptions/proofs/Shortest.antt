-- Three cycles that find no request, with a keep-alive count of 1 and a lifetime count of 3.
use mathlib.Core.Path.{◌≡◌, ap, ◌∙◌}
use mathlib.Core.Bool.{true, false}
use mathlib.Core.List.{[], ◌∷◌}
use lib.IntN.{pos}
use Rattle.subscriptions.specs.declared.figures.Figures.{Figures}
use Rattle.subscriptions.specs.declared.figures.Outcome.{Outcome}
use Rattle.subscriptions.specs.declared.figures.Outcome.TheVariants.{Rests, Joins, Ends}
use Rattle.subscriptions.specs.declared.parameters.SubscriptionParameters.{SubscriptionParameters}
use Rattle.subscriptions.specs.Revision.{revision}
use Rattle.subscriptions.specs.Changes.{created}
use Rattle.subscriptions.specs.Cycle.{cycle}
use Rattle.subscriptions.specs.Edges.{asking}

pub three : (p : SubscriptionParameters) (f₀ f₁ f₂ : Figures) (o₁ o₂ o₃ : Outcome) → p ≡ asking (pos 50) 1 3 0 → f₀ ≡ created 1 (revision p) true →
    f₁ ≡ (cycle false false f₀).after → f₂ ≡ (cycle false false f₁).after →
    o₁ ≡ (cycle false false f₀).outcome → o₂ ≡ (cycle false false f₁).outcome → o₃ ≡ (cycle false false f₂).outcome →
    o₁ ∷ o₂ ∷ o₃ ∷ [] ≡ Joins ∷ Rests ∷ Ends ∷ []
three p f₀ f₁ f₂ o₁ o₂ o₃ a e e₁ e₂ p₁ p₂ p₃ =
    let e₀ : f₀ ≡ created 1 (revision (asking (pos 50) 1 3 0)) true = e ∙ ap (λ q. created 1 (revision q) true) a in
    let a₁ : f₁ ≡ _ = e₁ ∙ ap (λ f. (cycle false false f).after) e₀ in
    let a₂ : f₂ ≡ _ = e₂ ∙ ap (λ f. (cycle false false f).after) a₁ in
    let q₁ : o₁ ≡ Joins = p₁ ∙ ap (λ f. (cycle false false f).outcome) e₀ in
    let q₂ : o₂ ≡ Rests = p₂ ∙ ap (λ f. (cycle false false f).outcome) a₁ in
    let q₃ : o₃ ≡ Ends = p₃ ∙ ap (λ f. (cycle false false f).outcome) a₂ in
    cc
