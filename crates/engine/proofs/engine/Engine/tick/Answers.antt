use Rattle.model.specs.State.{state_of}
use Rattle.soundness.proofs.Keeps.{sound_tick}
use Rattle.engine.proofs.Soundly.{keeps, few}
use Rattle.engine.proofs.engine.Engine.tick.Goals as goal

pub tick-requires : goal.tick-requires
tick-requires g c = few (state_of c.args.self.now.state) c.args.self.now.sound

pub invariant_of-self : goal.invariant_of-self
invariant_of-self g c = record { sound = keeps _ _ _ c.args.self.now.sound (λ h. sound_tick _ h _ _) c.tick.ensures.after }
