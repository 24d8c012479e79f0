use Rattle.model.specs.State.{State, state_of}
use Rattle.engine.specs.declared.engine.Engine.{Engine}

-- the engine's state as lists
abbrev pub state_in : Engine → State
state_in e = state_of e.state
