use Rattle.std.proofs.Common.{refl}
use lib.Ieee.{lt, eq, is_nan, sub}
use Rattle.values.proofs.laws.figures.Goals as goal

pub returns : goal.returns
unfolding lt eq is_nan sub
returns c = (refl, refl, refl, refl, refl, refl)
