use Rattle.std.proofs.Common.{◌<◌, Some, take, ap, ◌∙◌, arith, length-take}
use Rattle.std.proofs.Math.Seq.{take-set-lt}
use Rattle.std.proofs.lemmas.List.{get_or-take}
use Rattle.std.proofs.lemmas.Option.{slice_get-get_or, get_or_from_slice_get}
use Rattle.fifo.specs.Bounded.{items}
use Rattle.fifo.proofs.bounded.BoundedList.change.Goals as goal

pub returns : goal.returns
returns g c =
    let q = c.args.self.now in
    let i = c.args.i in
    let r = c.change.ensures in
    let lt : i < q.len = omega (arith, c.requires.within, length-take q.len q.places) in (
      r.0,
      r.1,
      slice_get-get_or (items q) i r.0 c.requires.within
          ∙ ap Some (get_or-take q.len q.places i r.0 lt ∙ get_or_from_slice_get q.places i r.0 r.0 r.2),
      r.3,
      ap (take q.len) r.4 ∙ take-set-lt q.len q.places i r.1 lt,
    )
