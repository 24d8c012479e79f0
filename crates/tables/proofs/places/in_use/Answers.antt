use Rattle.std.proofs.Common.{rules}
use Rattle.tables.proofs.Slices.{plain_length}
use Rattle.tables.proofs.places.in_use.Goals as goal

pub returns : goal.returns
returns g c = let l = plain_length g.T.Row.plain c.args.places.now c.args.len c.requires in record { value = search rules; count = search rules; bound = search rules }
