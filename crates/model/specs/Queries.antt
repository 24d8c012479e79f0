-- The queries. They change nothing, the idle count included.
use Rattle.std.specs.Prelude.{ℕ, List, Some, None, Ok, Err, Option, Result}
use Rattle.subscriptions.specs.declared.figures.Figures.{Figures}
use Rattle.items.specs.declared.waiting.Waiting.{Waiting}
use Rattle.items.specs.declared.fault.ItemFault.TheVariants.{MonitoredItemIdInvalid}
use Rattle.items.specs.Item.{Item}
use Rattle.item_table.specs.Table.{item_in}
use Rattle.answers.specs.declared.fault.ServiceFault.{ServiceFault}
use Rattle.answers.specs.declared.fault.ServiceFault.TheVariants as fault
use Rattle.model.specs.State.{State, live_in}
use Rattle.model.specs.Messages.{kept_numbers}

-- an accepted query's value, seen through a function
abbrev pub shown_by : {X Y : Type 0} → (X → Y) → Result X ServiceFault → Result Y ServiceFault
shown_by f (Ok x) = Ok (f x)
shown_by f (Err e) = Err e

abbrev pub of_live : {X : Type 0} → Option Figures → ℕ → Result X ServiceFault → Result X ServiceFault
of_live None id r = Err (fault.SubscriptionIdInvalid id)
of_live (Some f) id r = r

-- the numbers of the kept messages of a live subscription, oldest first
abbrev pub numbers_kept : State → ℕ → Result (List ℕ) ServiceFault
numbers_kept s id = of_live (live_in id s.subscriptions) id (Ok (kept_numbers id s.kept))

abbrev pub waiting_by : Option Item → ℕ → Result (List Waiting) ServiceFault
waiting_by None item = Err (fault.Item (MonitoredItemIdInvalid item))
waiting_by (Some x) item = Ok x.waiting

-- the waiting samples of an item, oldest first
abbrev pub samples_waiting : State → ℕ → ℕ → Result (List Waiting) ServiceFault
samples_waiting s id item = of_live (live_in id s.subscriptions) id (waiting_by (item_in id item s.items) item)
