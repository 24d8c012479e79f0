use Rattle.std.proofs.Common.{ap, ◌∙◌}
use Rattle.std.specs.Option.{option_map}
use Rattle.tables.proofs.Slices.{found, missing}
use Rattle.tables.proofs.places.get.Goals as goal

pub returns-in_err-place : goal.returns-in_err-place
returns-in_err-place g c =
    ap (option_map (λ x. g.T.Row.plain x.now)) c.from_residual.ensures
    ∙ missing g.T.Row.plain c.args.places.now c.args.len g.T.Row.key_of g.T.Keyed.tag g.met.T.Row.keyed c.args.key c.in_err-place.ensures.value

pub returns : goal.returns
returns g c =
    let here = c.in_ok-place.ensures in
    found g.T.Row.plain c.args.places.now c.args.len g.T.Row.key_of g.T.Keyed.tag g.met.T.Row.keyed c.args.key
    c.in_ok-place.place c.index-places-place.result here.bound c.index-places-place.is here.value
