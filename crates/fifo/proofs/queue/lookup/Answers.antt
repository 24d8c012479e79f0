use Rattle.std.proofs.Common.{rules}
use Rattle.std.proofs.lemmas.List.{get_or-take}
use Rattle.fifo.proofs.Keys.{lookup_position, lookup_none}
use Rattle.fifo.proofs.queue.lookup.Goals as goal

pub returns-in_err-i : goal.returns-in_err-i
returns-in_err-i g c = search (rules, lookup_none)

pub returns : goal.returns
returns g c = search (rules, lookup_position, get_or-take)
