use Rattle.std.proofs.Common.{◌≡◌, ◌^◌, ◌≤◌, true, false, cond, leb, pos, Some, None, sym, ap, ◌∙◌, arith, lit<, rules}
use native.Mathlib.Nat.{pow-le-pow_right, one-le-pow}
use lib.Ieee.{binary64, round, of_int, div}
use Rattle.script_numbers.proofs.Quotients.{quotient}
use Rattle.script_numbers.proofs.double.ratio.Goals as goal

pub returns : goal.returns
returns c =
    let n = c.args.number in
    let k = c.args.decimals in
    let small : leb n 9007199254740992 ≡ true = search rules in
    let few : leb k 15 ≡ true = search rules in
    let n-le : n ≤ 2 ^ 53 = omega arith in
    let k-le : k ≤ 15 = omega arith in
    let s : 10 ^ k ≤ 10 ^ 15 = pow-le-pow_right (lit< tt) k-le in
    let scale : c.nearest_u64_to_f64-2.result ≡ of_int binary64 (pos (10 ^ k)) = search rules in
    let t : div binary64 c.nearest_u64_to_f64.result c.nearest_u64_to_f64-2.result ≡ round binary64 false n (10 ^ k) =
    ap (λ x. div binary64 x c.nearest_u64_to_f64-2.result) c.nearest_u64_to_f64.ensures
    ∙ ap (div binary64 (of_int binary64 (pos n))) scale
    ∙ quotient n (10 ^ k) n-le (omega arith) (one-le-pow k 10 (lit< tt)) in
    ap Some t
    ∙ sym (ap (λ b. cond b (Some (round binary64 false n (10 ^ k))) None) few)
    ∙ sym (ap (λ b. cond b (cond (leb k 15) (Some (round binary64 false n (10 ^ k))) None) None) small)
