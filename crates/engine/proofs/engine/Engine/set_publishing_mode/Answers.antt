use Rattle.soundness.proofs.Keeps.{sound_set_publishing_mode}
use Rattle.engine.proofs.Soundly.{keeps}
use Rattle.engine.proofs.engine.Engine.set_publishing_mode.Goals as goal

pub invariant_of-self : goal.invariant_of-self
invariant_of-self c = record { sound = keeps _ _ _ c.args.self.now.sound (λ h. sound_set_publishing_mode _ h _ _) c.set_publishing_mode.ensures.after }
