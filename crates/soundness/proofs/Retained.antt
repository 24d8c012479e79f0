-- Every call keeps what holds of the kept messages.
use Rattle.std.proofs.Common.{ℕ, Bool, List, Option}
use Rattle.sources.specs.declared.source.Standing.{Standing}
use Rattle.answers.specs.declared.acknowledgement.Acknowledgement.{Acknowledgement}
use Rattle.subscriptions.specs.declared.parameters.SubscriptionParameters.{SubscriptionParameters}
use Rattle.model.specs.declared.parameters.MonitoringParameters.{MonitoringParameters}
use Rattle.model.specs.State.{State, new_state}
use Rattle.model.specs.Subscribing.{create_subscription, modify_subscription, set_publishing_mode, delete_subscription}
use Rattle.model.specs.Monitoring.{create_item, modify_item, delete_item, set_monitoring_mode}
use Rattle.model.specs.Publish.{publish}
use Rattle.model.specs.Republish.{republish}
use Rattle.model.specs.Tick.{tick}
use Rattle.model.specs.Sound.{KeptMessages, Sound}
use Rattle.soundness.proofs.Held.{kept_held}
use Rattle.soundness.proofs.Holding.{held_new, held_create_subscription, held_modify_subscription, held_publishing_mode, held_delete_subscription, held_create_item, held_modify_item, held_delete_item, held_monitoring_mode, held_publish, held_republish, held_tick}

pub retained_new : (first : ℕ) → KeptMessages (new_state first)
retained_new first = kept_held (new_state first) (held_new first)

pub retained_create_subscription : (s : State) (p : SubscriptionParameters) (enabled : Bool) → Sound s → KeptMessages (create_subscription s p enabled).state
retained_create_subscription s p enabled h = kept_held (create_subscription s p enabled).state (held_create_subscription s h p enabled)

pub retained_modify_subscription : (s : State) (id : ℕ) (p : SubscriptionParameters) → Sound s → KeptMessages (modify_subscription s id p).state
retained_modify_subscription s id p h = kept_held (modify_subscription s id p).state (held_modify_subscription s h id p)

pub retained_set_publishing_mode : (s : State) (id : ℕ) (enabled : Bool) → Sound s → KeptMessages (set_publishing_mode s id enabled).state
retained_set_publishing_mode s id enabled h = kept_held (set_publishing_mode s id enabled).state (held_publishing_mode s h id enabled)

pub retained_delete_subscription : (s : State) (id room : ℕ) → Sound s → KeptMessages (delete_subscription s id room).state
retained_delete_subscription s id room h = kept_held (delete_subscription s id room).state (held_delete_subscription s h id room)

pub retained_create_item : (stands : ℕ → Option Standing) (s : State) (id node mode : ℕ) (p : MonitoringParameters) → Sound s → KeptMessages (create_item stands s id node mode p).state
retained_create_item stands s id node mode p h = kept_held (create_item stands s id node mode p).state (held_create_item s h stands id node mode p)

pub retained_modify_item : (s : State) (id item : ℕ) (p : MonitoringParameters) → Sound s → KeptMessages (modify_item s id item p).state
retained_modify_item s id item p h = kept_held (modify_item s id item p).state (held_modify_item s h id item p)

pub retained_delete_item : (s : State) (id item : ℕ) → Sound s → KeptMessages (delete_item s id item).state
retained_delete_item s id item h = kept_held (delete_item s id item).state (held_delete_item s h id item)

pub retained_set_monitoring_mode : (s : State) (id item mode : ℕ) → Sound s → KeptMessages (set_monitoring_mode s id item mode).state
retained_set_monitoring_mode s id item mode h = kept_held (set_monitoring_mode s id item mode).state (held_monitoring_mode s h id item mode)

pub retained_publish : (s : State) (handle : ℕ) (acks : List Acknowledgement) (room places : ℕ) → Sound s → KeptMessages (publish s handle acks room places).state
retained_publish s handle acks room places h = kept_held (publish s handle acks room places).state (held_publish s handle acks room places h)

pub retained_republish : (s : State) (id n : ℕ) → Sound s → KeptMessages (republish s id n).state
retained_republish s id n h = kept_held (republish s id n).state (held_republish s h id n)

pub retained_tick : (stands : ℕ → Option Standing) (s : State) (room : ℕ) → Sound s → KeptMessages (tick stands s room).state
retained_tick stands s room h = kept_held (tick stands s room).state (held_tick s h stands room)
