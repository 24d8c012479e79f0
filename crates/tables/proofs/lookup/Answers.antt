use Rattle.std.proofs.Common.{ap, ◌∙◌}
use Rattle.std.specs.Option.{option_map}
use Rattle.tables.proofs.Plain.{plain_lookup}
use Rattle.tables.proofs.lookup.Goals as goal

pub returns : goal.returns
returns g c = ap (option_map g.T.Row.plain) c.lookup.ensures ∙ plain_lookup g.T.Row.plain g.T.Row.key_of g.T.Keyed.tag g.met.T.Row.keyed c.args.key _
