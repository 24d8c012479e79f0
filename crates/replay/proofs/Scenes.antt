-- What a scene does, by its call.
use Rattle.std.proofs.Common.{◌≡◌, ℕ, [], ap, ◌∙◌, Option}
use Rattle.sources.specs.declared.source.Standing.{Standing}
use Rattle.model.specs.State.{State}
use Rattle.laws.specs.Runs.{done_by, called}
use Rattle.replay.specs.declared.scene.Call.{Call}
use Rattle.replay.specs.declared.scene.Scene.{Scene}
use Rattle.replay.specs.Replay.{call_of, scene_of}

-- the scene of a call without responses has none
pub silent : {S : Type 0} (stands : S → ℕ → Option Standing) (scene : Scene S) (call : Call) (s : State) →
    scene.call ≡ call → (done_by (stands scene.source) s (call_of call)).responses ≡ [] → (called s (scene_of stands scene)).responses ≡ []
silent stands scene call s e h = ap (λ k. (done_by (stands scene.source) s (call_of k)).responses) e ∙ h
