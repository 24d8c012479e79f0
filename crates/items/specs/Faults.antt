-- The number, layer, place and name of each item fault, and the check of a mode and a filter.
use Rattle.std.specs.Prelude.{ℕ, List, codes, cond, Some, None, Ok, Err, Option, Result, ◌==◌}
use Rattle.values.specs.declared.value.Kind.{Kind}
use Rattle.values.specs.declared.checked.CheckedFilter.{CheckedFilter}
use Rattle.values.specs.declared.check.RequestedFilter.{RequestedFilter}
use Rattle.values.specs.declared.fault.Layer.TheVariants as layer
use Rattle.values.specs.declared.fault.Refusal.{Refusal}
use Rattle.values.specs.declared.fault.FilterFault.{FilterFault}
use Rattle.values.specs.Refusals.{filter_refusal, filter_fault_name}
use Rattle.values.specs.Check.{checked}
use Rattle.items.specs.declared.item.Mode.{Mode}
use Rattle.items.specs.declared.item.Mode.TheVariants.{Disabled, Sampling, Reporting}
use Rattle.items.specs.declared.fault.ItemFault.{ItemFault}
use Rattle.items.specs.declared.fault.ItemFault.TheVariants.{MonitoredItemIdInvalid, MonitoringModeInvalid, Filter}

-- a filter's fault keeps its number, layer and place
abbrev pub item_refusal : ItemFault → Refusal
item_refusal (MonitoredItemIdInvalid id) = record { number = 4; layer = layer.Item; place = id }
item_refusal (MonitoringModeInvalid p) = record { number = 10; layer = layer.Item; place = p }
item_refusal (Filter e) = filter_refusal e

abbrev pub item_fault_name : ItemFault → List ℕ
item_fault_name (MonitoredItemIdInvalid id) = codes "Bad_MonitoredItemIdInvalid"
item_fault_name (MonitoringModeInvalid p) = codes "Bad_MonitoringModeInvalid"
item_fault_name (Filter e) = filter_fault_name e

abbrev pub mode_of : ℕ → Option Mode
mode_of n = cond (n == 0) (Some Disabled) (cond (n == 1) (Some Sampling) (cond (n == 2) (Some Reporting) None))

abbrev pub checked_mode : Option Mode → ℕ → Result Mode ItemFault
checked_mode None p = Err (MonitoringModeInvalid p)
checked_mode (Some m) p = Ok m

abbrev pub with_filter : Mode → Result CheckedFilter FilterFault → Result (Mode × CheckedFilter) ItemFault
with_filter m (Ok f) = Ok (m, f)
with_filter m (Err e) = Err (Filter e)

abbrev pub after_mode : Result Mode ItemFault → RequestedFilter → Kind → ℕ → Result (Mode × CheckedFilter) ItemFault
after_mode (Err e) q k p = Err e
after_mode (Ok m) q k p = with_filter m (checked q k p)

-- the mode is looked at before the filter
abbrev pub checked_item : ℕ → RequestedFilter → Kind → ℕ → Result (Mode × CheckedFilter) ItemFault
checked_item mode q k p = after_mode (checked_mode (mode_of mode) p) q k p
