-- The calls on monitored items, each as a step. Each sets the subscription's idle count to 0.
use Rattle.std.specs.Prelude.{ℕ, ◌+◌, cond, List, [], ◌∷◌, ◌++◌, length, Ok, Err, Result, ◌==◌, nat_lt, Option, Some, None}
use Rattle.fifo.specs.Lists.{replaced, without}
use Rattle.values.specs.declared.value.Kind.{Kind}
use Rattle.values.specs.declared.checked.CheckedFilter.{CheckedFilter}
use Rattle.values.specs.declared.fault.FilterFault.{FilterFault}
use Rattle.values.specs.Check.{checked}
use Rattle.sources.specs.declared.source.Standing.{Standing}
use Rattle.subscriptions.specs.declared.figures.Figures.{Figures}
use Rattle.subscriptions.specs.Keys.{id_of}
use Rattle.subscriptions.specs.Changes.{named}
use Rattle.items.specs.declared.item.Mode.{Mode}
use Rattle.items.specs.declared.item.Mode.TheVariants.{Disabled, Sampling, Reporting}
use Rattle.items.specs.declared.item.Settings.{Settings}
use Rattle.items.specs.declared.fault.ItemFault.{ItemFault}
use Rattle.items.specs.declared.fault.ItemFault.TheVariants.{Filter}
use Rattle.items.specs.Faults.{checked_item, checked_mode, mode_of}
use Rattle.items.specs.Item.{Item, created, modified, moded, sampling_ticks}
use Rattle.items.specs.Keys.{id_of as item_id}
use Rattle.items.specs.Queue.{queue_size_of}
use Rattle.item_table.specs.Table.{item_in}
use Rattle.answers.specs.declared.fault.ServiceFault.TheVariants.{TooManyMonitoredItems, IdsUsedUp, NodeIdUnknown}
use Rattle.model.specs.declared.parameters.MonitoringParameters.{MonitoringParameters}
use Rattle.model.specs.declared.revised.RevisedItem.{RevisedItem}
use Rattle.model.specs.declared.revised.CreatedItem.{CreatedItem}
use Rattle.model.specs.State.{State, live_in, with_items}
use Rattle.model.specs.Steps.{Event, Started, Step, refused, answers, for_live, for_item, for_checked}

-- the settings of an item: a negative sampling interval is the subscription's interval as it is now
abbrev pub settings_of : MonitoringParameters → CheckedFilter → Figures → Settings
settings_of p filter f = record { client_handle = p.client_handle; filter = filter; interval = sampling_ticks p.sampling_interval f.revised.interval; discard_oldest = p.discard_oldest }

-- the subscription was named: its idle count is 0
abbrev pub naming : State → Figures → List Figures
naming s f = replaced id_of (named f) s.subscriptions

-- refused where the source does not know the node
abbrev pub for_known : {X : Type 0} → Option Standing → State → ℕ → (Kind → Step X) → Step X
for_known None s node step = refused s (NodeIdUnknown node)
for_known (Some t) s node step = step t.kind

-- what a client is told of an item: its sampling interval in ticks and its queue size
abbrev pub revised_of : Item → RevisedItem
revised_of x = record { interval = x.settings.interval; queue_size = x.size }

-- a new item takes the next id
abbrev pub adding : State → Figures → Item → Step CreatedItem
adding s f x =
    answers
    (record { next = s.next + 1; subscriptions = naming s f; items = s.items ++ x ∷ []; kept = s.kept; requests = s.requests; late = s.late })
    (record { id = item_id x; revised = revised_of x })
    (Started (item_id x) ∷ [])

abbrev pub new_item : State → Figures → ℕ → ℕ → MonitoringParameters → Kind → Mode × CheckedFilter → Item
new_item s f id node p kind checks =
    created (record { id = s.next; subscription = id; node = node; kind = kind }) (settings_of p checks.1 f) (queue_size_of p.queue_size) checks.0

abbrev pub create_item : (ℕ → Option Standing) → State → ℕ → ℕ → ℕ → MonitoringParameters → Step CreatedItem
create_item stands s id node mode p =
    for_live (live_in id s.subscriptions) s id (λ f.
    cond (length s.items == 32) (refused s TooManyMonitoredItems)
    (cond (nat_lt 4294967295 s.next) (refused s IdsUsedUp)
    (for_known (stands node) s node (λ kind.
    for_checked (checked_item mode p.filter kind node) s (λ checks.
    adding s f (new_item s f id node p kind checks))))))

-- a filter's fault is an item's
abbrev pub of_item : Result CheckedFilter FilterFault → Result CheckedFilter ItemFault
of_item (Ok filter) = Ok filter
of_item (Err e) = Err (Filter e)

abbrev pub replacing : State → Figures → Item → List Event → Step (Unit {0})
replacing s f x events = answers (with_items s (naming s f) (replaced item_id x s.items)) tt events

abbrev pub modifying : State → Figures → Item → Step RevisedItem
modifying s f x = answers (with_items s (naming s f) (replaced item_id x s.items)) (revised_of x) (Started (item_id x) ∷ [])

-- the filter is checked against the kind that the item kept
abbrev pub modify_item : State → ℕ → ℕ → MonitoringParameters → Step RevisedItem
modify_item s id item p =
    for_live (live_in id s.subscriptions) s id (λ f.
    for_item (item_in id item s.items) s item (λ x.
    for_checked (of_item (checked p.filter x.identity.kind item)) s (λ filter.
    modifying s f (modified x (settings_of p filter f) (queue_size_of p.queue_size)))))

abbrev pub delete_item : State → ℕ → ℕ → Step (Unit {0})
delete_item s id item =
    for_live (live_in id s.subscriptions) s id (λ f.
    for_item (item_in id item s.items) s item (λ x.
    answers (with_items s (naming s f) (without item_id item s.items)) tt []))

-- an item that was disabled and is not any more starts again
abbrev pub starting : Mode → Mode → ℕ → List Event
starting Disabled Disabled id = []
starting Disabled Sampling id = Started id ∷ []
starting Disabled Reporting id = Started id ∷ []
starting Sampling m id = []
starting Reporting m id = []

abbrev pub set_monitoring_mode : State → ℕ → ℕ → ℕ → Step (Unit {0})
set_monitoring_mode s id item mode =
    for_live (live_in id s.subscriptions) s id (λ f.
    for_item (item_in id item s.items) s item (λ x.
    for_checked (checked_mode (mode_of mode) item) s (λ m.
    replacing s f (moded x m) (starting x.mode m (item_id x)))))
