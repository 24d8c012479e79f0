use Rattle.soundness.proofs.Keeps.{sound_delete_subscription}
use Rattle.engine.proofs.Soundly.{keeps}
use Rattle.engine.proofs.engine.Engine.delete_subscription.Goals as goal

pub invariant_of-self : goal.invariant_of-self
invariant_of-self c = record { sound = keeps _ _ _ c.args.self.now.sound (λ h. sound_delete_subscription _ h _ _) c.delete_subscription.ensures.after }
