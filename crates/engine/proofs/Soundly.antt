-- What soundness gives to the calls.
use mathlib.Core.Path.{◌≡◌, sym, subst}
use mathlib.Core.Bool.{true, Bool-set}
use mathlib.Core.Logic.{∥∥₁_map, ∥∥₁_elim}
use Prim.Native.Nat.{◌≤◌}
use native.Mathlib.Bridge.{le_prop}
use lib.ListN.{length}
use Rattle.item_table.specs.Table.{all_below}
use Rattle.model.specs.State.{State}
use Rattle.model.specs.Sound.{Sound}
use Rattle.soundness.proofs.Published.{late_few}
use Rattle.soundness.proofs.Monitored.{all_below_lem}

-- a state that a step leaves is sound
pub keeps : (s t u : State) → ∥ Sound s ∥₁ → (Sound s → Sound u) → t ≡ u → ∥ Sound t ∥₁
keeps s t u h k e = ∥∥₁_map h (λ x. subst Sound (sym e) (k x))

pub few : (s : State) → ∥ Sound s ∥₁ → length s.late ≤ 4
few s h = ∥∥₁_elim h le_prop (λ x. late_few s x.published)

pub given : (s : State) → ∥ Sound s ∥₁ → 1 ≤ s.next
given s h = ∥∥₁_elim h le_prop (λ x. x.published.given)

pub below : (s : State) → ∥ Sound s ∥₁ → all_below s.next s.items ≡ true
below s h = ∥∥₁_elim h (Bool-set (all_below s.next s.items) true) (λ x. all_below_lem s x.monitored)

pub begins : (t u : State) → Sound u → t ≡ u → ∥ Sound t ∥₁
begins t u h e = ∣ subst Sound (sym e) h ∣₁
