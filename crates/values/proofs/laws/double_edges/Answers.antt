use Rattle.std.proofs.Common.{[], ◌∷◌}
use lib.Ieee.{lt, eq, is_nan, sub, of_bits}
use Rattle.values.proofs.laws.double_edges.Goals as goal

pub returns : goal.returns
unfolding lt eq is_nan sub of_bits
returns c = λ i. c.differ.ensures i ∷ c.differ-2.ensures i ∷ []
