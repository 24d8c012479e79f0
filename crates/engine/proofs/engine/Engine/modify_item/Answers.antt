use Rattle.soundness.proofs.Keeps.{sound_modify_item}
use Rattle.engine.proofs.Soundly.{keeps}
use Rattle.engine.proofs.engine.Engine.modify_item.Goals as goal

pub invariant_of-self : goal.invariant_of-self
invariant_of-self c = record { sound = keeps _ _ _ c.args.self.now.sound (λ h. sound_modify_item _ h _ _ c.args.parameters.now) c.modify_item.ensures.after }
