use Rattle.std.proofs.Common.{ap, ◌∙◌}
use Rattle.std.specs.Option.{option_map}
use Rattle.tables.proofs.Slices.{plain_lookup}
use Rattle.tables.proofs.places.lookup.Goals as goal

pub returns : goal.returns
returns g c =
    ap (option_map g.T.Row.plain) c.lookup.ensures
    ∙ plain_lookup g.T.Row.plain c.args.places.now c.args.len g.T.Row.key_of g.T.Keyed.tag g.met.T.Row.keyed c.args.key
