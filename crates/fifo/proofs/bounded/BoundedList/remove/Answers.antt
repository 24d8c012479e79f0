use Rattle.std.proofs.Common.{rules}
use Rattle.fifo.proofs.Keys.{lookup_position, lookup_none, removed_position, without_none}
use Rattle.fifo.proofs.bounded.BoundedList.remove.Goals as goal

pub returns-in_err-i-clause-value : goal.returns-in_err-i-clause-value
returns-in_err-i-clause-value g c = search (rules, lookup_none)

pub returns-in_err-i-clause-after : goal.returns-in_err-i-clause-after
returns-in_err-i-clause-after g c = search (rules, without_none)

pub returns-clause-value : goal.returns-clause-value
returns-clause-value g c = search (rules, lookup_position)

pub returns-clause-after : goal.returns-clause-after
returns-clause-after g c = search (rules, removed_position)
