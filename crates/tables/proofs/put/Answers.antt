use Rattle.std.proofs.Common.{map, ap, ◌∙◌}
use Rattle.std.proofs.lemmas.List.{map-set}
use Rattle.tables.proofs.put.Goals as goal

pub returns : goal.returns
returns g c = ap (map g.T.Row.plain) c.set.ensures ∙ map-set g.T.Row.plain _ c.args.i c.args.row
