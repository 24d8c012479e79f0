use Rattle.std.proofs.Common.{◌≡◌, ◌^◌, ◌≤◌, nat_abs, ◌∙◌, to_z-of_z, w32, to_z, of_z}
use lib.Signed.{nat_abs-le}
use lib.Ieee.{Float, lt, sub, of_int, binary64}
use Rattle.values.proofs.Exact.{exact, turned}
use Rattle.values.specs.Beyond.{beyond_int}
use Rattle.values.proofs.number.difference.Goals as goal

pub returns : goal.returns
returns c = record { exact = above; turned = λ d. above d ∙ turned d c.args.smaller c.args.larger }
  where
    above : (d : Float) → lt d (sub binary64 (of_int binary64 (to_z w32 (of_z w32 c.args.larger))) (of_int binary64 (to_z w32 (of_z w32 c.args.smaller)))) ≡ beyond_int d c.args.larger c.args.smaller
    above d =
        let a = c.args.larger in
        let b = c.args.smaller in
        let j : nat_abs a ≤ 2 ^ 31 = nat_abs-le a c.ranges.larger.sfits in
        let k : nat_abs b ≤ 2 ^ 31 = nat_abs-le b c.ranges.smaller.sfits in
        let p : to_z w32 (of_z w32 a) ≡ a = to_z-of_z c.ranges.larger in
        let q : to_z w32 (of_z w32 b) ≡ b = to_z-of_z c.ranges.smaller in
        (λ i. lt d (sub binary64 (of_int binary64 (p i)) (of_int binary64 (q i)))) ∙ exact d a b j k c.requires
