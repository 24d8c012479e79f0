use lib.ListN.{length}
use Rattle.soundness.proofs.Keeps.{sound_publish}
use Rattle.engine.proofs.Soundly.{keeps}
use Rattle.engine.proofs.engine.Engine.publish.Goals as goal

pub invariant_of-self : goal.invariant_of-self
invariant_of-self c = record { sound = keeps _ _ _ c.args.self.now.sound (λ h. sound_publish _ h _ c.args.acknowledgements.now (length c.args.responses.now) (length c.args.results.now)) c.publish.ensures.after }
