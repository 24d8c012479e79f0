use Rattle.std.proofs.Common.{◌<◌, length, arith, rules}
use Rattle.tables.proofs.Slices.{plain_length, plain_put}
use Rattle.tables.proofs.places.put.Goals as goal

pub offset_bounds-places-i : goal.offset_bounds-places-i
offset_bounds-places-i g c =
    let l : c.args.i < length c.args.places.now = omega (arith, plain_length g.T.Row.plain c.args.places.now c.args.len c.requires.fits) in
    search rules

pub bounds-places-i : goal.bounds-places-i
bounds-places-i g c = omega (arith, plain_length g.T.Row.plain c.args.places.now c.args.len c.requires.fits)

pub returns : goal.returns
returns g c =
    plain_put g.T.Row.plain c.args.places.now c.args.len c.args.i c.args.row
    (omega (arith, plain_length g.T.Row.plain c.args.places.now c.args.len c.requires.fits))
