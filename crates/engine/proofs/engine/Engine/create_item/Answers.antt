use Rattle.model.specs.State.{state_of}
use Rattle.soundness.proofs.Keeps.{sound_create_item}
use Rattle.engine.proofs.Soundly.{keeps, below, given}
use Rattle.engine.proofs.engine.Engine.create_item.Goals as goal

pub create_item-requires : goal.create_item-requires
create_item-requires g c = record { below = below (state_of c.args.self.now.state) c.args.self.now.sound; given = given (state_of c.args.self.now.state) c.args.self.now.sound }

pub invariant_of-self : goal.invariant_of-self
invariant_of-self g c = record { sound = keeps _ _ _ c.args.self.now.sound (λ h. sound_create_item _ h (g.S.Source.stands c.args.source.now) _ c.args.node c.args.mode c.args.parameters.now) c.create_item.ensures.after }
