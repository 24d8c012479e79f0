use Rattle.std.proofs.Common.{get_or, refl}
use Rattle.std.proofs.lemmas.Option.{slice_get-get_or}
use Rattle.fifo.proofs.bounded.changes.change.Goals as goal

pub returns : goal.returns
returns g c = (
  get_or c.args.places.now c.args.i c.index-places-i.result,
  _,
  slice_get-get_or c.args.places.now c.args.i c.index-places-i.result c.requires.within,
  record { shown = _; shows = refl; left = _; met = c.f.ensures; leaves = refl },
  refl,
)
