use Rattle.std.specs.Prelude.{◌≡◌, ℕ, List, vec_items, Option}
use Rattle.sources.specs.declared.source.Standing.{Standing}
use Rattle.messages.specs.declared.response.Response.{Response}
use Rattle.model.specs.State.{State, new_state}
use Rattle.laws.specs.Runs.{final, responses}
use Rattle.laws.specs.Runs as run
use Rattle.laws.specs.Laws.{Lawful}
use Rattle.replay.specs.declared.scene.Call.{Call}
use Rattle.replay.specs.declared.scene.Call.TheVariants.{CreateSubscription, ModifySubscription, SetPublishingMode, DeleteSubscription, CreateItem, ModifyItem, DeleteItem, SetMonitoringMode, Publish, Republish, Tick}
use Rattle.replay.specs.declared.scene.Scene.{Scene}

-- a call of the program as a call of a run
abbrev pub call_of : Call → run.Call
call_of (CreateSubscription p enabled) = run.CreateSubscription p enabled
call_of (ModifySubscription id p) = run.ModifySubscription id p
call_of (SetPublishingMode id enabled) = run.SetPublishingMode id enabled
call_of (DeleteSubscription id room) = run.DeleteSubscription id room
call_of (CreateItem id node mode p) = run.CreateItem id node mode p
call_of (ModifyItem id item p) = run.ModifyItem id item p
call_of (DeleteItem id item) = run.DeleteItem id item
call_of (SetMonitoringMode id item mode) = run.SetMonitoringMode id item mode
call_of (Publish handle acks room places) = run.Publish handle (vec_items acks) room places
call_of (Republish id n) = run.Republish id n
call_of (Tick room) = run.Tick room

-- a scene as one of a run, where `stands` tells what a source stands at
abbrev pub scene_of : {S : Type 0} → (S → ℕ → Option Standing) → Scene S → run.Scene
scene_of stands c = record { stands = stands c.source; call = call_of c.call }

-- the scenes ran on a new engine: the state and the log are theirs, and the run is lawful
pub record Replayed (first : ℕ) (scenes : List run.Scene) (state : State) (log : List Response) : Type 0 where
  pub ends : state ≡ final (new_state first) scenes
  pub sent : log ≡ responses (new_state first) scenes
  pub lawful : Lawful first scenes
