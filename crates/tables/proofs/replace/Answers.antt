use Rattle.std.proofs.Common.{map, ap, ◌∙◌}
use Rattle.tables.proofs.Plain.{plain_replaced}
use Rattle.tables.proofs.replace.Goals as goal

pub returns : goal.returns
returns g c = ap (map g.T.Row.plain) c.replace.ensures ∙ plain_replaced g.T.Row.plain g.T.Row.key_of g.T.Keyed.tag g.met.T.Row.keyed _ c.args.row
