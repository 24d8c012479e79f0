-- The key of an item.
use Rattle.std.specs.Prelude.{ℕ}
use Rattle.items.specs.declared.item.MonitoredItem.{MonitoredItem}
use Rattle.items.specs.Item.{Item}

abbrev pub id_of : Item → ℕ
id_of x = x.identity.id

abbrev pub id_of_item : MonitoredItem → ℕ
id_of_item m = m.identity.id
