use Rattle.std.proofs.Common.{rules}
use Rattle.fifo.proofs.Keys.{set_position, replaced_none}
use Rattle.fifo.proofs.bounded.BoundedList.replace.Goals as goal

pub returns-in-Some : goal.returns-in-Some
returns-in-Some g c = search (rules, set_position)

pub returns-in_default : goal.returns-in_default
returns-in_default g c = search (rules, replaced_none)
