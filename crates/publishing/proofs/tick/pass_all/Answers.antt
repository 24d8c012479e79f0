use Rattle.std.proofs.Common.{length, ap, ◌∙◌, arith}
use Rattle.model.specs.State.{state_of}
use Rattle.publishing.proofs.Passing.{goes_on}
use Rattle.publishing.proofs.tick.pass_all.Goals as goal

pub pass_slot-requires-clause-ready : goal.pass_slot-requires-clause-ready
pass_slot-requires-clause-ready c =
    let g = c.loop-i.invariant.1 in
    let s = g.space in
    let m = g.room in
    let n = g.size in
    let v = c.len-i-end.ensures.value in
    let t = c.loop-i-test.true in
    let l = g.long ∙ ap length c.new-responses.ensures.places in
    let r = c.requires.space in
    record { room = omega (arith, m, n, v, t); space = omega (arith, s, l, r) }

pub loop-i-preserved : goal.loop-i-preserved
loop-i-preserved c =
    let e = c.pass_slot.ensures in
    let q = e.state in
    let w = e.responses in
    let g = c.loop-i.invariant.1 in
    let n = g.size in
    let v = c.len-i-end.ensures.value in
    let t = c.loop-i-test.true in
    let l = g.long ∙ ap length c.new-responses.ensures.places in
    let r = c.requires.space in (
      w.same ∙ c.loop-i.invariant.0,
      goes_on _ _ c.loop-i.i c.loop-i.responses.written (state_of c.loop-i.state) c.loop-i.responses.places.now g (omega (arith, n, v, t)) (omega (arith, l, r))
          (state_of c.pass_slot.new.state) c.pass_slot.new.responses.places.now c.pass_slot.new.responses.written
          q.next e.subscriptions (λ j. record { items = q.items j; kept = q.kept j; requests = q.requests j; late = q.late j }) w.written w.places,
    )
