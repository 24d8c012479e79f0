use Rattle.std.proofs.Common.{◌≡◌}
use Rattle.model.specs.State.{state_of}
use Rattle.publishing.proofs.Passing.{Passing}
use Rattle.publishing.proofs.tick.pass_all.Given as goal

abbrev pub invariant-loop-i : goal.invariant-loop-i
invariant-loop-i l =
    (l.responses.places.ghost_name ≡ l.initial.responses.places.ghost_name)
    × Passing (state_of l.initial.state) l.initial.responses.places.now l.i l.responses.written (state_of l.state) l.responses.places.now
