use Rattle.std.proofs.Common.{◌≡◌, is_some, map, sym, ap, ◌∙◌, rules}
use Rattle.fifo.specs.Lists.{lookup, without}
use Rattle.fifo.specs.Bounded.{items}
use Rattle.messages.specs.Messages.{number_of}
use Rattle.retransmission.specs.Kept.{kept_in}
use Rattle.retransmission.specs.Rows.{shown}
use Rattle.retransmission.proofs.Rows.{kept_at, kept_none, changed_at, unchanged}
use Rattle.retransmission.proofs.kept.RetransmissionTable.acknowledge.Goals as goal

pub returns-in-Some-clause-value : goal.returns-in-Some-clause-value
returns-in-Some-clause-value c =
    let r = c.change.ensures in
    let answer : c.change.result ≡ is_some (lookup number_of c.args.number (kept_in r.0.queue)) = search (rules, r.3.met, r.3.shows) in
    answer
    ∙ ap (λ ms. is_some (lookup number_of c.args.number ms)) (kept_at c.args.subscription (items c.args.self.now.rows) c.in-Some.i c.in-Some.ensures.value r.0 r.2)

pub returns-in-Some-clause-after : goal.returns-in-Some-clause-after
returns-in-Some-clause-after c =
    let r = c.change.ensures in
    ap (map shown) r.4
    ∙ changed_at c.args.subscription (items c.args.self.now.rows) c.in-Some.i c.in-Some.ensures.value r.0 r.2 r.1
    (without number_of c.args.number) (search (rules, r.3.met, r.3.shows, r.3.leaves))

pub returns-in-None-clause-value : goal.returns-in-None-clause-value
returns-in-None-clause-value c =
    sym (ap (λ ms. is_some (lookup number_of c.args.number ms)) (kept_none c.args.subscription (items c.args.self.now.rows) c.in-None.ensures.value))

pub returns-in-None-clause-after : goal.returns-in-None-clause-after
returns-in-None-clause-after c = unchanged c.args.subscription (items c.args.self.now.rows) c.in-None.ensures.value _
