-- How long the lists are that a call writes to.
use Rattle.std.specs.Prelude.{ℕ}
use Rattle.replay.specs.declared.scene.Call.{Call}
use Rattle.replay.specs.declared.scene.Call.TheVariants.{CreateSubscription, ModifySubscription, SetPublishingMode, DeleteSubscription, CreateItem, ModifyItem, DeleteItem, SetMonitoringMode, Publish, Republish, Tick}

-- the places for responses
abbrev pub room_of : Call → ℕ
room_of (DeleteSubscription id room) = room
room_of (Publish handle acks room places) = room
room_of (Tick room) = room
room_of (CreateSubscription p enabled) = 0
room_of (ModifySubscription id p) = 0
room_of (SetPublishingMode id enabled) = 0
room_of (CreateItem id node mode p) = 0
room_of (ModifyItem id item p) = 0
room_of (DeleteItem id item) = 0
room_of (SetMonitoringMode id item mode) = 0
room_of (Republish id n) = 0

-- the places for results of acknowledgements
abbrev pub places_of : Call → ℕ
places_of (Publish handle acks room places) = places
places_of (CreateSubscription p enabled) = 0
places_of (ModifySubscription id p) = 0
places_of (SetPublishingMode id enabled) = 0
places_of (DeleteSubscription id room) = 0
places_of (CreateItem id node mode p) = 0
places_of (ModifyItem id item p) = 0
places_of (DeleteItem id item) = 0
places_of (SetMonitoringMode id item mode) = 0
places_of (Republish id n) = 0
places_of (Tick room) = 0
