-- Every call keeps what holds of the items.
use Rattle.std.proofs.Common.{◌≡◌, ℕ, Bool, true, List, Option}
use Rattle.sources.specs.declared.source.Standing.{Standing}
use Rattle.item_table.specs.Table.{all_below}
use Rattle.answers.specs.declared.acknowledgement.Acknowledgement.{Acknowledgement}
use Rattle.subscriptions.specs.declared.parameters.SubscriptionParameters.{SubscriptionParameters}
use Rattle.model.specs.declared.parameters.MonitoringParameters.{MonitoringParameters}
use Rattle.model.specs.State.{State, new_state}
use Rattle.model.specs.Subscribing.{create_subscription, modify_subscription, set_publishing_mode, delete_subscription}
use Rattle.model.specs.Monitoring.{create_item, modify_item, delete_item, set_monitoring_mode}
use Rattle.model.specs.Publish.{publish}
use Rattle.model.specs.Republish.{republish}
use Rattle.model.specs.Tick.{tick}
use Rattle.model.specs.Sound.{Monitored, Sound}
use Rattle.soundness.proofs.Held.{below_all, monitored_held}
use Rattle.soundness.proofs.Holding.{held_new, held_create_subscription, held_modify_subscription, held_publishing_mode, held_delete_subscription, held_create_item, held_modify_item, held_delete_item, held_monitoring_mode, held_publish, held_republish, held_tick}

pub monitored_new : (first : ℕ) → Monitored (new_state first)
monitored_new first = monitored_held (new_state first) (held_new first)

pub monitored_create_subscription : (s : State) (p : SubscriptionParameters) (enabled : Bool) → Sound s → Monitored (create_subscription s p enabled).state
monitored_create_subscription s p enabled h = monitored_held (create_subscription s p enabled).state (held_create_subscription s h p enabled)

pub monitored_modify_subscription : (s : State) (id : ℕ) (p : SubscriptionParameters) → Sound s → Monitored (modify_subscription s id p).state
monitored_modify_subscription s id p h = monitored_held (modify_subscription s id p).state (held_modify_subscription s h id p)

pub monitored_set_publishing_mode : (s : State) (id : ℕ) (enabled : Bool) → Sound s → Monitored (set_publishing_mode s id enabled).state
monitored_set_publishing_mode s id enabled h = monitored_held (set_publishing_mode s id enabled).state (held_publishing_mode s h id enabled)

pub monitored_delete_subscription : (s : State) (id room : ℕ) → Sound s → Monitored (delete_subscription s id room).state
monitored_delete_subscription s id room h = monitored_held (delete_subscription s id room).state (held_delete_subscription s h id room)

pub monitored_create_item : (stands : ℕ → Option Standing) (s : State) (id node mode : ℕ) (p : MonitoringParameters) → Sound s → Monitored (create_item stands s id node mode p).state
monitored_create_item stands s id node mode p h = monitored_held (create_item stands s id node mode p).state (held_create_item s h stands id node mode p)

pub monitored_modify_item : (s : State) (id item : ℕ) (p : MonitoringParameters) → Sound s → Monitored (modify_item s id item p).state
monitored_modify_item s id item p h = monitored_held (modify_item s id item p).state (held_modify_item s h id item p)

pub monitored_delete_item : (s : State) (id item : ℕ) → Sound s → Monitored (delete_item s id item).state
monitored_delete_item s id item h = monitored_held (delete_item s id item).state (held_delete_item s h id item)

pub monitored_set_monitoring_mode : (s : State) (id item mode : ℕ) → Sound s → Monitored (set_monitoring_mode s id item mode).state
monitored_set_monitoring_mode s id item mode h = monitored_held (set_monitoring_mode s id item mode).state (held_monitoring_mode s h id item mode)

pub monitored_publish : (s : State) (handle : ℕ) (acks : List Acknowledgement) (room places : ℕ) → Sound s → Monitored (publish s handle acks room places).state
monitored_publish s handle acks room places h = monitored_held (publish s handle acks room places).state (held_publish s handle acks room places h)

pub monitored_republish : (s : State) (id n : ℕ) → Sound s → Monitored (republish s id n).state
monitored_republish s id n h = monitored_held (republish s id n).state (held_republish s h id n)

pub monitored_tick : (stands : ℕ → Option Standing) (s : State) (room : ℕ) → Sound s → Monitored (tick stands s room).state
monitored_tick stands s room h = monitored_held (tick stands s room).state (held_tick s h stands room)

-- the next id is above every item's
pub all_below_lem : (s : State) → Monitored s → all_below s.next s.items ≡ true
all_below_lem s h = below_all s.next s.items h.below
