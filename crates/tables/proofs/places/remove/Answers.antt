use Rattle.std.proofs.Common.{rules}
use Rattle.tables.proofs.Slices.{removed_at, unremoved}
use Rattle.tables.proofs.places.remove.Goals as goal

pub returns-in_default : goal.returns-in_default
returns-in_default g c =
    record {
      after = unremoved g.T.Row.plain c.args.places.now c.args.len g.T.Row.key_of g.T.Keyed.tag g.met.T.Row.keyed c.args.key c.in_default.ensures.value;
      bound = search rules;
    }

pub returns : goal.returns
returns g c =
    record {
      after =
          removed_at g.T.Row.plain c.args.places.now c.args.len g.T.Row.key_of g.T.Keyed.tag g.met.T.Row.keyed c.args.key
          c.in-Some.place _ c.remove.ensures.after c.in-Some.ensures.value;
      bound = search rules;
    }
