use Rattle.model.specs.State.{state_of}
use Rattle.message_calls.proofs.Acknowledging.{all_written}
use Rattle.message_calls.proofs.acknowledge.acknowledge_all.Goals as goal

pub returns-clause-results : goal.returns-clause-results
returns-clause-results c =
    all_written c.args.acknowledgements.now (state_of c.args.state.now) (state_of c.loop-i.state) c.args.results.now c.loop-i.results c.loop-i.i c.loop-i-test.false c.requires c.loop-i.invariant
