use Rattle.values.proofs.Changes.{changed_itself, changed_either}
use Rattle.values.proofs.laws.change_laws.Goals as goal

pub returns : goal.returns
returns c = record { itself = changed_itself; either = changed_either }
