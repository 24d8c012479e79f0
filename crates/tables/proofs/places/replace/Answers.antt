use Rattle.std.proofs.Common.{sym}
use Rattle.tables.proofs.Slices.{stored, unstored}
use Rattle.tables.proofs.places.replace.Goals as goal

pub returns-in-Some : goal.returns-in-Some
returns-in-Some g c =
    let here = c.in-Some.ensures in
    stored g.T.Row.plain c.args.places.now c.args.len g.T.Row.key_of g.T.Keyed.tag g.met.T.Row.keyed c.key.result
    c.in-Some.place c.args.row (sym c.key.ensures) here.bound here.value

pub returns-in_default : goal.returns-in_default
returns-in_default g c =
    unstored g.T.Row.plain c.args.places.now c.args.len g.T.Row.key_of g.T.Keyed.tag g.met.T.Row.keyed c.key.result
    c.args.row (sym c.key.ensures) c.in_default.ensures.value
