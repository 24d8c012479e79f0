-- The items of the table as a list.
use Rattle.std.specs.Prelude.{ℕ, Bool, true, false, cond, not, List, [], ◌∷◌, map, Some, None, filter, Option, ◌==◌, nat_lt}
use Rattle.fifo.specs.Lists.{lookup}
use Rattle.fifo.specs.Bounded.{items}
use Rattle.items.specs.Item.{Item, item_of}
use Rattle.items.specs.Keys.{id_of}
use Rattle.item_table.specs.declared.table.ItemTable.{ItemTable}

abbrev pub items_of : ItemTable → List Item
items_of t = map item_of (items t.rows)

-- every id in the list is below the new one
abbrev pub all_below : ℕ → List Item → Bool
all_below id [] = true
all_below id (x ∷ xs) = cond (nat_lt (id_of x) id) (all_below id xs) false

abbrev pub belongs : ℕ → Item → Bool
belongs s x = x.identity.subscription == s

abbrev pub of_subscription : ℕ → Option Item → Option Item
of_subscription s None = None
of_subscription s (Some x) = cond (belongs s x) (Some x) None

-- the item with the id, where it is of the subscription
abbrev pub item_in : ℕ → ℕ → List Item → Option Item
item_in s id xs = of_subscription s (lookup id_of id xs)

-- the items of all other subscriptions
abbrev pub others : ℕ → List Item → List Item
others s xs = filter (λ x. not (belongs s x)) xs
