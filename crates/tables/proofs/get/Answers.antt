use Rattle.tables.proofs.Plain.{plain_read}
use Rattle.tables.proofs.get.Goals as goal

pub returns : goal.returns
returns g c = plain_read g.T.Row.plain g.T.Row.key_of g.T.Keyed.tag g.met.T.Row.keyed (λ x. x.now) c.get.result c.args.key _ c.get.ensures
