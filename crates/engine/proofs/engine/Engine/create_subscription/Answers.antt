use Rattle.soundness.proofs.Keeps.{sound_create_subscription}
use Rattle.engine.proofs.Soundly.{keeps}
use Rattle.engine.proofs.engine.Engine.create_subscription.Goals as goal

pub invariant_of-self : goal.invariant_of-self
invariant_of-self c = record { sound = keeps _ _ _ c.args.self.now.sound (λ h. sound_create_subscription _ h _ _) c.create_subscription.ensures.after }
