use Rattle.std.proofs.Common.{drop}
use Rattle.model.specs.State.{state_of}
use Rattle.message_calls.proofs.Acknowledging.{Going, acknowledged_in}
use Rattle.message_calls.proofs.acknowledge.acknowledge_all.Given as goal

-- the acknowledgements that are left give what all of them give
abbrev pub invariant-loop-i : goal.invariant-loop-i
invariant-loop-i l =
    Going (acknowledged_in l.acknowledgements (state_of l.initial.state)) (state_of l.initial.state) l.initial.results
    (acknowledged_in (drop l.i l.acknowledgements) (state_of l.state)) (state_of l.state) l.results l.i
