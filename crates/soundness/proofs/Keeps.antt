-- Every call keeps the state sound.
use Rattle.std.proofs.Common.{ℕ, Bool, List, Option}
use Rattle.sources.specs.declared.source.Standing.{Standing}
use Rattle.answers.specs.declared.acknowledgement.Acknowledgement.{Acknowledgement}
use Rattle.subscriptions.specs.declared.parameters.SubscriptionParameters.{SubscriptionParameters}
use Rattle.model.specs.declared.parameters.MonitoringParameters.{MonitoringParameters}
use Rattle.model.specs.State.{State, new_state}
use Rattle.model.specs.Subscribing.{create_subscription, modify_subscription, set_publishing_mode, delete_subscription}
use Rattle.model.specs.Monitoring.{create_item, modify_item, delete_item, set_monitoring_mode}
use Rattle.model.specs.Publish.{publish}
use Rattle.model.specs.Republish.{republish}
use Rattle.model.specs.Tick.{tick}
use Rattle.model.specs.Sound.{Sound}
use Rattle.soundness.proofs.Published.{published_new, published_create_subscription, published_modify_subscription, published_set_publishing_mode, published_delete_subscription, published_create_item, published_modify_item, published_delete_item, published_set_monitoring_mode, published_publish, published_republish, published_tick}
use Rattle.soundness.proofs.Monitored.{monitored_new, monitored_create_subscription, monitored_modify_subscription, monitored_set_publishing_mode, monitored_delete_subscription, monitored_create_item, monitored_modify_item, monitored_delete_item, monitored_set_monitoring_mode, monitored_publish, monitored_republish, monitored_tick}
use Rattle.soundness.proofs.Retained.{retained_new, retained_create_subscription, retained_modify_subscription, retained_set_publishing_mode, retained_delete_subscription, retained_create_item, retained_modify_item, retained_delete_item, retained_set_monitoring_mode, retained_publish, retained_republish, retained_tick}

pub sound_new : (first : ℕ) → Sound (new_state first)
sound_new first = record { published = published_new first; monitored = monitored_new first; retained = retained_new first }

module _ (s : State) (h : Sound s) where
  pub sound_create_subscription : (p : SubscriptionParameters) (enabled : Bool) → Sound (create_subscription s p enabled).state
  sound_create_subscription p enabled =
      record { published = published_create_subscription s p enabled h.published; monitored = monitored_create_subscription s p enabled h; retained = retained_create_subscription s p enabled h }

  pub sound_modify_subscription : (id : ℕ) (p : SubscriptionParameters) → Sound (modify_subscription s id p).state
  sound_modify_subscription id p =
      record { published = published_modify_subscription s id p h.published; monitored = monitored_modify_subscription s id p h; retained = retained_modify_subscription s id p h }

  pub sound_set_publishing_mode : (id : ℕ) (enabled : Bool) → Sound (set_publishing_mode s id enabled).state
  sound_set_publishing_mode id enabled =
      record { published = published_set_publishing_mode s id enabled h.published; monitored = monitored_set_publishing_mode s id enabled h; retained = retained_set_publishing_mode s id enabled h }

  pub sound_delete_subscription : (id room : ℕ) → Sound (delete_subscription s id room).state
  sound_delete_subscription id room =
      record { published = published_delete_subscription s id room h.published; monitored = monitored_delete_subscription s id room h; retained = retained_delete_subscription s id room h }

  pub sound_create_item : (stands : ℕ → Option Standing) (id node mode : ℕ) (p : MonitoringParameters) → Sound (create_item stands s id node mode p).state
  sound_create_item stands id node mode p =
      record { published = published_create_item stands s id node mode p h.published; monitored = monitored_create_item stands s id node mode p h; retained = retained_create_item stands s id node mode p h }

  pub sound_modify_item : (id item : ℕ) (p : MonitoringParameters) → Sound (modify_item s id item p).state
  sound_modify_item id item p =
      record { published = published_modify_item s id item p h.published; monitored = monitored_modify_item s id item p h; retained = retained_modify_item s id item p h }

  pub sound_delete_item : (id item : ℕ) → Sound (delete_item s id item).state
  sound_delete_item id item =
      record { published = published_delete_item s id item h.published; monitored = monitored_delete_item s id item h; retained = retained_delete_item s id item h }

  pub sound_set_monitoring_mode : (id item mode : ℕ) → Sound (set_monitoring_mode s id item mode).state
  sound_set_monitoring_mode id item mode =
      record { published = published_set_monitoring_mode s id item mode h.published; monitored = monitored_set_monitoring_mode s id item mode h; retained = retained_set_monitoring_mode s id item mode h }

  pub sound_publish : (handle : ℕ) (acks : List Acknowledgement) (room places : ℕ) → Sound (publish s handle acks room places).state
  sound_publish handle acks room places =
      record { published = published_publish s handle acks room places h.published; monitored = monitored_publish s handle acks room places h; retained = retained_publish s handle acks room places h }

  pub sound_republish : (id n : ℕ) → Sound (republish s id n).state
  sound_republish id n =
      record { published = published_republish s id n h.published; monitored = monitored_republish s id n h; retained = retained_republish s id n h }

  pub sound_tick : (stands : ℕ → Option Standing) (room : ℕ) → Sound (tick stands s room).state
  sound_tick stands room =
      record { published = published_tick stands s room h.published; monitored = monitored_tick stands s room h; retained = retained_tick stands s room h }
