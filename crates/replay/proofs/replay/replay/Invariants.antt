use Rattle.std.proofs.Common.{map, drop, vec_items}
use Rattle.engine.specs.State.{state_in}
use Rattle.replay.specs.Replay.{scene_of}
use Rattle.replay.proofs.Replaying.{Replaying}
use Rattle.replay.proofs.replay.replay.Given as goal

abbrev pub invariant-loop-scene : goal.invariant-loop-scene
invariant-loop-scene g l =
    Replaying l.first_id (map (scene_of g.S.Source.stands) l.scenes) (map (scene_of g.S.Source.stands) (drop l.scene-index l.scenes))
    (state_in l.engine) (vec_items l.log)
