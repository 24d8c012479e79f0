-- A quotient of two whole numbers that are Doubles exactly.
use Rattle.std.proofs.Common.{◌≡◌, ℕ, ◌*◌, ◌^◌, ◌<◌, ◌≤◌, Bool, true, false, cond, eqb, pos, sym, refl, ap, ◌∙◌, subst, mul_assoc, mul_comm, mul-pos, zero-mul, mul-one, arith}
use Rattle.std.proofs.lemmas.Bool.{eqb-true}
use lib.Ieee.{Float, nan, inf, fin, binary64, round, of_int, div, up, down, unlike}
use lib.Ieee.Exact.{HasValue}
use lib.Ieee.Back.{round_whole}
use lib.Ieee.Scale.{round_same}
use lib.Ieee.Fits.{down_pos}

div_values : (x y : Float) (a b : ℕ) → 0 < b → HasValue x false a 1 → HasValue y false b 1 → div binary64 x y ≡ round binary64 false a b
unfolding div
div_values nan y a b l p q = absurd p
div_values (inf u) y a b l p q = absurd p
div_values (fin u m e) nan a b l p q = absurd q
div_values (fin u m e) (inf v) a b l p q = absurd q
div_values (fin u m e) (fin v n d) a b l p q = at (eqb n 0) refl where
  M : m * up e ≡ a * down e
  M = sym (mul-one (m * up e)) ∙ p.1

  N : n * up d ≡ b * down d
  N = sym (mul-one (n * up d)) ∙ q.1

  above : 0 < n * up d * down e
  above = subst (λ k. 0 < k * down e) (sym N) (mul-pos (mul-pos l (down_pos d)) (down_pos e))

  cross : m * up e * down d * b ≡ a * (n * up d * down e)
  cross =
      ap (λ k. k * down d * b) M
      ∙ mul_assoc (a * down e) (down d) b
      ∙ mul_assoc a (down e) (down d * b)
      ∙ ap (λ k. a * k) (mul_comm (down e) (down d * b) ∙ ap (λ k. k * down e) (mul_comm (down d) b ∙ sym N))

  at : (t : Bool) → eqb n 0 ≡ t → cond t (cond (eqb m 0) nan (inf (unlike u v))) (round binary64 (unlike u v) (m * up e * down d) (n * up d * down e)) ≡ round binary64 false a b
  at true z =
      let w : n * up d * down e ≡ 0 * up d * down e = ap (λ k. k * up d * down e) (eqb-true n 0 z) in
      let o : 0 * up d * down e ≡ 0 = ap (λ k. k * down e) (zero-mul (up d)) ∙ zero-mul (down e) in
      absurd (omega (arith, above, w, o))
  at false z =
      ap (λ s. round binary64 s (m * up e * down d) (n * up d * down e)) ((λ i. unlike (p.0 i) (q.0 i)))
      ∙ round_same binary64 false (m * up e * down d) (n * up d * down e) a b above l cross

of_nat : (n : ℕ) → n ≤ 2 ^ 53 → HasValue (of_int binary64 (pos n)) false n 1
unfolding of_int
of_nat n h = round_whole binary64 false n h

pub quotient : (a b : ℕ) → a ≤ 2 ^ 53 → b ≤ 2 ^ 53 → 0 < b → div binary64 (of_int binary64 (pos a)) (of_int binary64 (pos b)) ≡ round binary64 false a b
quotient a b h k l = div_values (of_int binary64 (pos a)) (of_int binary64 (pos b)) a b l (of_nat a h) (of_nat b k)
