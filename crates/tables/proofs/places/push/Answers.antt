use Rattle.std.proofs.Common.{map, take, ap, ◌∙◌}
use Rattle.std.proofs.lemmas.List.{map_push}
use Rattle.tables.proofs.places.push.Goals as goal

pub returns : goal.returns
returns g c = ap (map g.T.Row.plain) c.push.ensures ∙ map_push g.T.Row.plain (take c.args.len c.args.places.now) c.args.row
