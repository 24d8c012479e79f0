use Rattle.std.proofs.Common.{sym, rules}
use Rattle.values.proofs.Passing.{accepted}
use Rattle.values.proofs.check.RequestedFilter.check.Goals as goal

pub returns : goal.returns
returns c =
    accepted c.args.self.now c.args.kind c.args.place c.in_ok-trigger.trigger c.in_ok-deadband.deadband _
    (search rules) (search rules) (sym c.if-not-measures.ensures)
