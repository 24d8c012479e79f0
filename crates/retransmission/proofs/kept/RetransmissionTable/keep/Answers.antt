use Rattle.std.proofs.Common.{map, ap, ◌∙◌, rules}
use Rattle.fifo.specs.Bounded.{items}
use Rattle.retransmission.specs.Kept.{keeping}
use Rattle.retransmission.specs.Rows.{shown}
use Rattle.retransmission.proofs.Rows.{changed_at, unchanged}
use Rattle.retransmission.proofs.kept.RetransmissionTable.keep.Goals as goal

pub returns-in-Some : goal.returns-in-Some
returns-in-Some c =
    let r = c.change.ensures in
    ap (map shown) r.4 ∙ changed_at c.args.subscription (items c.args.self.now.rows) c.in-Some.i c.in-Some.ensures.value r.0 r.2 r.1 (keeping c.args.message.now) (search (rules, r.3.met, r.3.shows, r.3.leaves))

pub returns-in_default : goal.returns-in_default
returns-in_default c = unchanged c.args.subscription (items c.args.self.now.rows) c.in_default.ensures.value _
