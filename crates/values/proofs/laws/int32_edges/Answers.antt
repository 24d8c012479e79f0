use Rattle.std.proofs.Common.{[], ◌∷◌}
use lib.Ieee.{lt, of_bits}
use Rattle.values.proofs.laws.int32_edges.Goals as goal

pub returns : goal.returns
unfolding lt of_bits
returns c = λ i. c.differ.ensures i ∷ c.differ-2.ensures i ∷ c.differ-3.ensures i ∷ c.differ-4.ensures i ∷ []
