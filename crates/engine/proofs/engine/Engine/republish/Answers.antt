use Rattle.soundness.proofs.Keeps.{sound_republish}
use Rattle.engine.proofs.Soundly.{keeps}
use Rattle.engine.proofs.engine.Engine.republish.Goals as goal

pub invariant_of-self : goal.invariant_of-self
invariant_of-self c = record { sound = keeps _ _ _ c.args.self.now.sound (λ h. sound_republish _ h _ _) c.republish.ensures.after }
