-- The number, layer, place, status code and name of each fault.
use Rattle.std.specs.Prelude.{ℕ, List, codes, Some, None, Option}
use Rattle.values.specs.declared.fault.Layer.TheVariants as layer
use Rattle.values.specs.declared.fault.Refusal.{Refusal}
use Rattle.values.specs.declared.fault.FilterFault.{FilterFault}
use Rattle.values.specs.declared.fault.FilterFault.TheVariants.{MonitoredItemFilterInvalid, DeadbandFilterInvalid, FilterNotAllowed}
use Rattle.items.specs.declared.fault.ItemFault.{ItemFault}
use Rattle.items.specs.declared.fault.ItemFault.TheVariants.{MonitoredItemIdInvalid, MonitoringModeInvalid, Filter}
use Rattle.items.specs.Faults.{item_refusal, item_fault_name}
use Rattle.sources.specs.declared.fault.SourceFault.{SourceFault}
use Rattle.sources.specs.declared.fault.SourceFault.TheVariants.{TableFull, TypeMismatch, OutOfRange}
use Rattle.sources.specs.Faults.{source_refusal, source_fault_name}
use Rattle.answers.specs.declared.fault.ServiceFault.{ServiceFault}
use Rattle.answers.specs.declared.fault.ServiceFault.TheVariants.{ListTooShort, TooManyOperations, SubscriptionIdInvalid, MessageNotAvailable, TooManySubscriptions, TooManyMonitoredItems, IdsUsedUp, NodeIdUnknown, Item, Source}

-- an item's fault (4, 10, and 11 to 13 of its filter) and a source's (14 to 16) keep their number, layer and place
abbrev pub service_refusal : ServiceFault → Refusal
service_refusal ListTooShort = record { number = 1; layer = layer.Engine; place = 0 }
service_refusal TooManyOperations = record { number = 2; layer = layer.Engine; place = 0 }
service_refusal (SubscriptionIdInvalid id) = record { number = 3; layer = layer.Subscription; place = id }
service_refusal (MessageNotAvailable n) = record { number = 5; layer = layer.Subscription; place = n }
service_refusal TooManySubscriptions = record { number = 6; layer = layer.Engine; place = 0 }
service_refusal TooManyMonitoredItems = record { number = 7; layer = layer.Engine; place = 0 }
service_refusal IdsUsedUp = record { number = 8; layer = layer.Engine; place = 0 }
service_refusal (NodeIdUnknown n) = record { number = 9; layer = layer.Source; place = n }
service_refusal (Item e) = item_refusal e
service_refusal (Source e) = source_refusal e

abbrev pub filter_status : FilterFault → ℕ
filter_status (MonitoredItemFilterInvalid p) = 0x80430000
filter_status (DeadbandFilterInvalid p) = 0x808E0000
filter_status (FilterNotAllowed p) = 0x80450000

abbrev pub item_status : ItemFault → ℕ
item_status (MonitoredItemIdInvalid id) = 0x80420000
item_status (MonitoringModeInvalid p) = 0x80410000
item_status (Filter e) = filter_status e

abbrev pub source_status : SourceFault → Option ℕ
source_status (TableFull p) = None
source_status (TypeMismatch p) = Some 0x80740000
source_status (OutOfRange p) = Some 0x803C0000

-- the status code of OPC UA Part 4, where there is one
abbrev pub service_status : ServiceFault → Option ℕ
service_status ListTooShort = None
service_status TooManyOperations = Some 0x80100000
service_status (SubscriptionIdInvalid id) = Some 0x80280000
service_status (MessageNotAvailable n) = Some 0x807B0000
service_status TooManySubscriptions = Some 0x80770000
service_status TooManyMonitoredItems = Some 0x80DB0000
service_status IdsUsedUp = None
service_status (NodeIdUnknown n) = Some 0x80340000
service_status (Item e) = Some (item_status e)
service_status (Source e) = source_status e

-- the name of OPC UA Part 4, where there is one
abbrev pub fault_name : ServiceFault → List ℕ
fault_name ListTooShort = codes "list_too_short"
fault_name TooManyOperations = codes "Bad_TooManyOperations"
fault_name (SubscriptionIdInvalid id) = codes "Bad_SubscriptionIdInvalid"
fault_name (MessageNotAvailable n) = codes "Bad_MessageNotAvailable"
fault_name TooManySubscriptions = codes "Bad_TooManySubscriptions"
fault_name TooManyMonitoredItems = codes "Bad_TooManyMonitoredItems"
fault_name IdsUsedUp = codes "ids_used_up"
fault_name (NodeIdUnknown n) = codes "Bad_NodeIdUnknown"
fault_name (Item e) = item_fault_name e
fault_name (Source e) = source_fault_name e
