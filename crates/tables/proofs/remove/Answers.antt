use Rattle.std.proofs.Common.{map, ap, ◌∙◌}
use Rattle.tables.proofs.Plain.{plain_without}
use Rattle.tables.proofs.remove.Goals as goal

pub returns : goal.returns
returns g c = ap (map g.T.Row.plain) c.remove.ensures.after ∙ plain_without g.T.Row.plain g.T.Row.key_of g.T.Keyed.tag g.met.T.Row.keyed c.args.key _
