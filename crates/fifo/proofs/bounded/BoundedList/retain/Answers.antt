use Rattle.std.proofs.Common.{◌<◌, length, get_or, arith, refl, subst}
use Rattle.std.specs.Fn.{FnReturnsAt}
use Rattle.fifo.proofs.Changed.{one_kept, one_dropped}
use Rattle.fifo.proofs.bounded.BoundedList.retain.Goals as goal
use Rattle.fifo.proofs.bounded.BoundedList.retain.Goals.{then-keep, else-keep}

pub loop-i-preserved : goal.loop-i-preserved
loop-i-preserved g c =
    let i = c.loop-i.i in
    let k = c.loop-i.kept in
    let xs = c.args.self.now.places in
    let zs = c.loop-i.self.places in
    let x = c.index-self-i.result in
    let lt : i < length xs = omega (arith, c.args.self.now.fits, c.args.self.now.long, c.loop-i-test.true, c.loop-i.auto) in
    let lt' : i < length zs = omega (arith, lt, c.args.self.now.long, c.loop-i.self.long) in
    let h : FnReturnsAt g.F.Fn c.args.keep (get_or zs i x) c.keep.result = record { shown = _; shows = refl; says = record { met = c.keep.ensures } } in
    elim c.if-keep.branch [
      | then-keep w ↦
          let r =
          one_kept g.F.Fn c.args.keep xs zs i k x lt lt' c.loop-i.invariant.2 c.loop-i.invariant.0 c.loop-i.invariant.1
          (subst (λ b. FnReturnsAt g.F.Fn c.args.keep (get_or zs i x) b) w.if-keep.true h) in
          rw (w.self-is, w.kept-is) (r.0, r.1, omega (arith, c.loop-i.invariant.2))
      | else-keep w ↦
          let r =
          one_dropped g.F.Fn c.args.keep xs zs i k x lt lt' c.loop-i.invariant.0 c.loop-i.invariant.1
          (subst (λ b. FnReturnsAt g.F.Fn c.args.keep (get_or zs i x) b) w.if-keep.false h) in
          rw (w.self-is, w.kept-is) (r.0, r.1, omega (arith, c.loop-i.invariant.2))
    ]
