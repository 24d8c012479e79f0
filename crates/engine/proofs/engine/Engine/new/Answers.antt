use Rattle.soundness.proofs.Keeps.{sound_new}
use Rattle.engine.proofs.Soundly.{begins}
use Rattle.engine.proofs.engine.Engine.new.Goals as goal

pub invariant_of-result : goal.invariant_of-result
invariant_of-result c = record { sound = begins _ _ (sound_new _) c.new.ensures }
