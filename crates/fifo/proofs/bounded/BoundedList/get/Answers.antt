use Rattle.std.proofs.Common.{rules}
use Rattle.std.proofs.lemmas.List.{get_or-take}
use Rattle.fifo.proofs.Keys.{lookup_position, lookup_none}
use Rattle.fifo.proofs.bounded.BoundedList.get.Goals as goal

pub returns-in_err-place : goal.returns-in_err-place
returns-in_err-place g c = search (rules, lookup_none)

pub returns : goal.returns
returns g c = search (rules, lookup_position, get_or-take)
