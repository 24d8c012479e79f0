-- The number, layer, place and name of each filter fault, and the name of each layer. A name is given as its character codes.
use Rattle.std.specs.Prelude.{ℕ, List, codes}
use Rattle.values.specs.declared.fault.Layer.{Layer}
use Rattle.values.specs.declared.fault.Layer.TheVariants as layer
use Rattle.values.specs.declared.fault.Refusal.{Refusal}
use Rattle.values.specs.declared.fault.FilterFault.{FilterFault}
use Rattle.values.specs.declared.fault.FilterFault.TheVariants.{MonitoredItemFilterInvalid, DeadbandFilterInvalid, FilterNotAllowed}

abbrev pub filter_refusal : FilterFault → Refusal
filter_refusal (MonitoredItemFilterInvalid p) = record { number = 11; layer = layer.Filter; place = p }
filter_refusal (DeadbandFilterInvalid p) = record { number = 12; layer = layer.Filter; place = p }
filter_refusal (FilterNotAllowed p) = record { number = 13; layer = layer.Filter; place = p }

abbrev pub filter_fault_name : FilterFault → List ℕ
filter_fault_name (MonitoredItemFilterInvalid p) = codes "Bad_MonitoredItemFilterInvalid"
filter_fault_name (DeadbandFilterInvalid p) = codes "Bad_DeadbandFilterInvalid"
filter_fault_name (FilterNotAllowed p) = codes "Bad_FilterNotAllowed"

abbrev pub layer_name : Layer → List ℕ
layer_name layer.Engine = codes "engine"
layer_name layer.Subscription = codes "subscription"
layer_name layer.Item = codes "item"
layer_name layer.Filter = codes "filter"
layer_name layer.Source = codes "source"
