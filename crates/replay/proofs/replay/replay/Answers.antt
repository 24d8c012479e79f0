use Rattle.std.proofs.Common.{vec_items}
use Rattle.engine.specs.State.{state_in}
use Rattle.replay.specs.Replay.{scene_of}
use Rattle.replay.proofs.Replaying.{comes}
use Rattle.replay.proofs.replay.replay.Goals as goal

pub returns : goal.returns
returns g c =
    comes (scene_of g.S.Source.stands) c.args.first_id c.args.scenes.now c.loop-scene.scene-index (state_in c.loop-scene.engine) (vec_items c.loop-scene.log) c.loop-scene.invariant c.loop-scene-test.false
