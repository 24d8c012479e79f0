-- The engine's state as lists.
use Rattle.std.specs.Prelude.{ℕ, max, cond, List, [], Some, None, Option}
use Rattle.fifo.specs.Lists.{lookup}
use Rattle.numbers.specs.Items.{items as listed}
use Rattle.subscriptions.specs.declared.figures.Figures.{Figures}
use Rattle.subscriptions.specs.Facts.{live}
use Rattle.subscriptions.specs.Keys.{id_of}
use Rattle.subscription_table.specs.Slots.{slots}
use Rattle.items.specs.Item.{Item}
use Rattle.item_table.specs.Table.{items_of}
use Rattle.retransmission.specs.Rows.{Kept, rows}
use Rattle.model.specs.declared.state.EngineState.{EngineState}

-- the next id; the occupied slots and the items, by rising id; the kept messages; the handles of the queued requests,
-- oldest first; the ids on the late list, in order
pub record State : Type 0 where
  pub next : ℕ
  pub subscriptions : List Figures
  pub items : List Item
  pub kept : List Kept
  pub requests : List ℕ
  pub late : List ℕ

abbrev pub state_of : EngineState → State
state_of e = record { next = e.next_id; subscriptions = slots e.subscriptions; items = items_of e.items; kept = rows e.kept; requests = listed e.requests; late = listed e.late }

-- an empty engine; the next id is the first, or 1 for 0
abbrev pub new_state : ℕ → State
new_state first = record { next = max first 1; subscriptions = []; items = []; kept = []; requests = []; late = [] }

abbrev pub only_live : Option Figures → Option Figures
only_live None = None
only_live (Some f) = cond (live f.phase) (Some f) None

-- the live subscription with the id
abbrev pub live_in : ℕ → List Figures → Option Figures
live_in id fs = only_live (lookup id_of id fs)

-- the state with other subscriptions
abbrev pub with_subscriptions : State → List Figures → State
with_subscriptions s fs = record { next = s.next; subscriptions = fs; items = s.items; kept = s.kept; requests = s.requests; late = s.late }

-- the state with other subscriptions and items
abbrev pub with_items : State → List Figures → List Item → State
with_items s fs xs = record { next = s.next; subscriptions = fs; items = xs; kept = s.kept; requests = s.requests; late = s.late }

-- the state with other requests
abbrev pub with_requests : State → List ℕ → State
with_requests s hs = record { next = s.next; subscriptions = s.subscriptions; items = s.items; kept = s.kept; requests = hs; late = s.late }
