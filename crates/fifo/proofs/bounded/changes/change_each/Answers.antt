use Rattle.std.proofs.Common.{refl, arith}
use Rattle.fifo.proofs.Changed.{one_more}
use Rattle.fifo.proofs.bounded.changes.change_each.Goals as goal

pub loop-place-preserved : goal.loop-place-preserved
loop-place-preserved g c =
    let i = c.loop-place.place-index in
    one_more g.F.Fn c.args.f _ c.loop-place.place-items i c.place-item.result _ c.loop-place-test.true (omega (arith, c.loop-place.auto.place-items, c.loop-place-test.true))
    c.loop-place.invariant.0 c.loop-place.invariant.1 (_, _, refl, c.f.ensures, refl)
