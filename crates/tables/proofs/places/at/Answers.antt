use Rattle.std.proofs.Common.{get_or, ap, ◌∙◌}
use Rattle.tables.proofs.Slices.{plain_at}
use Rattle.tables.proofs.places.at.Goals as goal

pub returns : goal.returns
returns g c =
    let x = c.index-in_use-i.result in
    plain_at g.T.Row.plain c.args.places.now c.args.len c.args.i x
    (c.index-in_use-i.is ∙ ap (λ l. get_or l c.args.i x) c.in_use.ensures.value) c.requires.within
