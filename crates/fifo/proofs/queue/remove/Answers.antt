use Rattle.std.proofs.Common.{rules}
use Rattle.std.proofs.lemmas.List.{get_or-take}
use Rattle.fifo.proofs.Slots.{removed_is}
use Rattle.fifo.proofs.queue.remove.Goals as goal

pub returns : goal.returns
returns g c = record { value = search (rules, get_or-take); after = search (rules, removed_is) }
