-- The check of a requested filter against a kind: the first fault in the order 11, 12, 13.
use Rattle.std.specs.Prelude.{◌≡◌, ℕ, Bool, true, false, cond, Ok, Err, Option, Result, refl, Float}
use Rattle.std.specs.declared.option.Option.TheVariants as option
use Rattle.values.specs.declared.value.Kind.{Kind}
use Rattle.values.specs.declared.filter.Trigger.{Trigger}
use Rattle.values.specs.declared.filter.Deadband.{Deadband}
use Rattle.values.specs.declared.filter.Filter.{Filter}
use Rattle.values.specs.declared.checked.CheckedFilter.{CheckedFilter}
use Rattle.values.specs.declared.check.RequestedFilter.{RequestedFilter}
use Rattle.values.specs.declared.fault.FilterFault.{FilterFault}
use Rattle.values.specs.declared.fault.FilterFault.TheVariants.{MonitoredItemFilterInvalid, DeadbandFilterInvalid, FilterNotAllowed}
use Rattle.values.specs.Filters.{trigger_of, deadband_of, measured, allowed}

-- a filter, by whether its deadband value is allowed
abbrev pub passes : (f : Filter) (b : Bool) → allowed f.deadband f.deadband_value ≡ b → Kind → ℕ → Result CheckedFilter FilterFault
passes f false e k p = Err (DeadbandFilterInvalid p)
passes f true e k p = cond (measured f.deadband k) (Ok (record { filter = f; passed = e })) (Err (FilterNotAllowed p))

abbrev pub with_deadband : Option Deadband → Trigger → Float → Kind → ℕ → Result CheckedFilter FilterFault
with_deadband option.None t d k p = Err (DeadbandFilterInvalid p)
with_deadband (option.Some b) t d k p = passes (record { trigger = t; deadband = b; deadband_value = d }) (allowed b d) refl k p

abbrev pub with_trigger : Option Trigger → RequestedFilter → Kind → ℕ → Result CheckedFilter FilterFault
with_trigger option.None q k p = Err (MonitoredItemFilterInvalid p)
with_trigger (option.Some t) q k p = with_deadband (deadband_of q.deadband) t q.deadband_value k p

abbrev pub checked : RequestedFilter → Kind → ℕ → Result CheckedFilter FilterFault
checked q k p = with_trigger (trigger_of q.trigger) q k p
