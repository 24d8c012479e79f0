use Rattle.std.proofs.Common.{rules}
use Rattle.retransmission.proofs.Places.{none_goes}
use Rattle.retransmission.proofs.kept.RetransmissionQueue.make_room.Goals as goal

pub returns-else-is_full-clause-after : goal.returns-else-is_full-clause-after
returns-else-is_full-clause-after c = search (rules, none_goes)
