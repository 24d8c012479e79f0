-- Every call of a run keeps the state sound.
use Rattle.std.proofs.Common.{ℕ, List, [], ◌∷◌, Option}
use Rattle.sources.specs.declared.source.Standing.{Standing}
use Rattle.model.specs.State.{State, new_state}
use Rattle.model.specs.Sound.{Sound}
use Rattle.soundness.proofs.Keeps.{sound_new, sound_create_subscription, sound_modify_subscription, sound_set_publishing_mode, sound_delete_subscription, sound_create_item, sound_modify_item, sound_delete_item, sound_set_monitoring_mode, sound_publish, sound_republish, sound_tick}
use Rattle.laws.specs.Runs.{Call, CreateSubscription, ModifySubscription, SetPublishingMode, DeleteSubscription, CreateItem, ModifyItem, DeleteItem, SetMonitoringMode, Publish, Republish, Tick, Scene, done_by, called, final}

sound_done : (stands : ℕ → Option Standing) (s : State) → Sound s → (c : Call) → Sound (done_by stands s c).state
sound_done stands s h (CreateSubscription p enabled) = sound_create_subscription s h p enabled
sound_done stands s h (ModifySubscription id p) = sound_modify_subscription s h id p
sound_done stands s h (SetPublishingMode id enabled) = sound_set_publishing_mode s h id enabled
sound_done stands s h (DeleteSubscription id room) = sound_delete_subscription s h id room
sound_done stands s h (CreateItem id node mode p) = sound_create_item s h stands id node mode p
sound_done stands s h (ModifyItem id item p) = sound_modify_item s h id item p
sound_done stands s h (DeleteItem id item) = sound_delete_item s h id item
sound_done stands s h (SetMonitoringMode id item mode) = sound_set_monitoring_mode s h id item mode
sound_done stands s h (Publish handle acks room places) = sound_publish s h handle acks room places
sound_done stands s h (Republish id n) = sound_republish s h id n
sound_done stands s h (Tick room) = sound_tick s h stands room

pub sound_call : (s : State) → Sound s → (c : Scene) → Sound (called s c).state
sound_call s h c = sound_done c.stands s h c.call

-- after all calls, from any sound state
pub sound_run : (s : State) → Sound s → (scenes : List Scene) → Sound (final s scenes)
sound_run s h [] = h
sound_run s h (c ∷ cs) = sound_run (called s c).state (sound_call s h c) cs

pub sound_final : (first : ℕ) (scenes : List Scene) → Sound (final (new_state first) scenes)
sound_final first scenes = sound_run (new_state first) (sound_new first) scenes
