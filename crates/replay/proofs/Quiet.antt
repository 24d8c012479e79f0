-- The calls on items that write no response.
use Rattle.std.proofs.Common.{◌≡◌, ℕ, [], refl, Option}
use Rattle.sources.specs.declared.source.Standing.{Standing}
use Rattle.model.specs.declared.revised.RevisedItem.{RevisedItem}
use Rattle.model.specs.declared.revised.CreatedItem.{CreatedItem}
use Rattle.model.specs.declared.parameters.MonitoringParameters.{MonitoringParameters}
use Rattle.model.specs.State.{State}
use Rattle.model.specs.Steps.{Step}
use Rattle.model.specs.Monitoring.{create_item, modify_item}
use Rattle.soundness.proofs.Cases as cases

abbrev pub Quiet : {X : Type 0} → Step X → Type 0
Quiet t = t.responses ≡ []

pub quiet_create_item : (stands : ℕ → Option Standing) (s : State) (id node mode : ℕ) (p : MonitoringParameters) → Quiet (create_item stands s id node mode p)
quiet_create_item stands s id node mode p = at (create_item stands s id node mode p) (cases.creating_item stands s id node mode p)
  where
    at : (t : Step CreatedItem) → cases.CreatingItem stands s id node mode p t → Quiet t
    at t (cases.unknown e) = refl
    at t (cases.full n) = refl
    at t (cases.used_up n) = refl
    at t (cases.no_node k) = refl
    at t (cases.bad shown x k c) = refl
    at t (cases.adds f shown checks e n l k c) = refl

pub quiet_modify_item : (s : State) (id item : ℕ) (p : MonitoringParameters) → Quiet (modify_item s id item p)
quiet_modify_item s id item p = at (modify_item s id item p) (cases.modifying_item s id item p)
  where
    at : (t : Step RevisedItem) → cases.ModifyingItem s id item p t → Quiet t
    at t (cases.unknown e) = refl
    at t (cases.no_item i) = refl
    at t (cases.bad x y i c) = refl
    at t (cases.modifies f x filter e i c) = refl
