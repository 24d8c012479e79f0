-- A checked filter is its filter: two proofs that it passed are equal.
use Rattle.std.proofs.Common.{◌≡◌, ℕ, Bool, true, false, cond, Ok, Err, Result, sym, refl, ap, ◌∙◌, arith}
use mathlib.Core.Bool.{Bool-set}
use Rattle.std.specs.declared.option.Option.TheVariants as option
use Rattle.values.specs.declared.value.Kind.{Kind}
use Rattle.values.specs.declared.filter.Filter.{Filter}
use Rattle.values.specs.declared.filter.Trigger.{Trigger}
use Rattle.values.specs.declared.filter.Deadband.{Deadband}
use Rattle.values.specs.declared.checked.CheckedFilter.{CheckedFilter}
use Rattle.values.specs.declared.check.RequestedFilter.{RequestedFilter}
use Rattle.values.specs.declared.fault.FilterFault.{FilterFault}
use Rattle.values.specs.declared.fault.FilterFault.TheVariants.{FilterNotAllowed}
use Rattle.values.specs.Filters.{trigger_of, deadband_of, measured, allowed}
use Rattle.values.specs.Check.{passes, with_deadband, with_trigger, checked}

passing : (f : Filter) (b : Bool) (e : allowed f.deadband f.deadband_value ≡ b) (h : allowed f.deadband f.deadband_value ≡ true) (k : Kind) (p : ℕ)
    → measured f.deadband k ≡ true → ◌≡◌ {A = Result CheckedFilter FilterFault} (Ok (record { filter = f; passed = h })) (passes f b e k p)
passing f true e h k p m =
    ap (λ q. Ok (record { filter = f; passed = q })) (Bool-set _ _ h e)
    ∙ ap (λ t. cond t (Ok (record { filter = f; passed = e })) (Err (FilterNotAllowed p))) (sym m)
passing f false e h k p m = absurd (let z : ◌≡◌ {A = ℕ} 0 1 = ap (λ t. cond t 0 1) (sym h ∙ e) in omega arith)

-- what the check answers where nothing is wrong
pub accepted : (q : RequestedFilter) (k : Kind) (p : ℕ) (t : Trigger) (b : Deadband) (h : allowed b q.deadband_value ≡ true)
    → trigger_of q.trigger ≡ option.Some t → deadband_of q.deadband ≡ option.Some b → measured b k ≡ true
    → ◌≡◌ {A = Result CheckedFilter FilterFault} (Ok (record { filter = record { trigger = t; deadband = b; deadband_value = q.deadband_value }; passed = h })) (checked q k p)
accepted q k p t b h e d m =
    passing (record { trigger = t; deadband = b; deadband_value = q.deadband_value }) (allowed b q.deadband_value) refl h k p m
    ∙ sym (ap (λ o. with_deadband o t q.deadband_value k p) d)
    ∙ sym (ap (λ o. with_trigger o q k p) e)
