use Rattle.laws.proofs.Lawful.{every_run}
use Rattle.laws.proofs.laws.every_run.Goals as goal

pub returns : goal.returns
returns c = every_run
