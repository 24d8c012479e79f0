-- The difference of two 32-bit integers is exact in binary64.
use Rattle.std.proofs.Common.{◌≡◌, ℕ, suc, ◌+◌, ◌-◌, ◌*◌, ◌^◌, ◌<◌, ◌≤◌, Bool, true, false, not, ◌&&◌, ltb, ℤ, pos, negsuc, ◌-ℤ◌, nat_abs, sym, refl, ap, ◌∙◌, subst, inl, inr, mul-le-mul_right, mul_assoc, mul_comm, add-mul, mul-lt-mul_of_pos_right, mul-pos, zero-mul, mul-one, mul_right_comm, arith, lit<, rules, le-ltb, lt-ltb}
use native.Mathlib.Nat.{mul-sub}
use lib.Signed.{lt_z}
use lib.Ieee.{Float, nan, inf, fin, Format, binary64, lt, sub, sum, round, of_int, below, up, down}
use lib.Ieee.Exact.{HasValue}
use lib.Ieee.Back.{round_whole}
use lib.Ieee.Scale.{round_same}
use lib.Ieee.Fits.{down_pos}
use Rattle.std.proofs.lemmas.Bool.{cases_lt}
use Rattle.std.proofs.lemmas.Bool.Decides.{nat_tests}
use Rattle.std.proofs.lemmas.Int.{ints}
use Rattle.values.specs.Beyond.{beyond_int}

sub_mul : (a b c : ℕ) → (a - b) * c ≡ a * c - b * c
sub_mul a b c = mul_comm (a - b) c ∙ mul-sub c a b ∙ (λ i. mul_comm c a i - mul_comm c b i)

-- a comparison reads only the values
pub ltb_scale : (a b c : ℕ) → 0 < c → ltb (a * c) (b * c) ≡ ltb a b
ltb_scale a b c h =
    elim (cases_lt a b) [
      | inl l ↦ lt-ltb (a * c) (b * c) (mul-lt-mul_of_pos_right l h) ∙ sym (lt-ltb a b l)
      | inr g ↦ le-ltb (a * c) (b * c) (mul-le-mul_right c g) ∙ sym (le-ltb a b g)
    ]

below_scale : (s t : Bool) (a b c : ℕ) → 0 < c → below s (a * c) t (b * c) ≡ below s a t b
below_scale false false a b c h = ltb_scale a b c h
below_scale false true a b c h = refl
below_scale true false a b c h = ap (ltb 0) (sym (add-mul a b c)) ∙ ap (λ z. ltb z ((a + b) * c)) (sym (zero-mul c)) ∙ ltb_scale 0 (a + b) c h
below_scale true true a b c h = ltb_scale b a c h

pub lt_value : (d x : Float) (s : Bool) (n : ℕ) → HasValue x s n 1 → lt d x ≡ lt d (fin s n (pos 0))
unfolding lt
lt_value d nan s n p = absurd p
lt_value d (inf t) s n p = absurd p
lt_value nan (fin t m e) s n p = refl
lt_value (inf u) (fin t m e) s n p = refl
lt_value (fin u k g) (fin t m e) s n p =
    let a : k * up g * 1 * down e ≡ k * up g * down e = ap (λ z. z * down e) (mul-one (k * up g)) in
    let b : n * 1 * down g * down e ≡ m * up e * down g =
    ap (λ z. z * down g * down e) (mul-one n) ∙ mul_right_comm n (down g) (down e) ∙ ap (λ z. z * down g) (sym p.1 ∙ mul-one (m * up e)) in
    (λ i. below u (sym a i) (p.0 i) (sym b i)) ∙ below_scale u s (k * up g * 1) (n * 1 * down g) (down e) (down_pos e)

-- a difference reads only the values
sum_scale : (f : Format) (s t : Bool) (a b c : ℕ) → 0 < c → sum f s (a * c) t (b * c) c ≡ sum f s a t b 1
unfolding sum
sum_scale f s t a b c h =
    let p : round f s (a * c + b * c) c ≡ round f s (a + b) 1 = round_same f s (a * c + b * c) c (a + b) 1 h (lit< tt) (mul-one (a * c + b * c) ∙ sym (add-mul a b c)) in
    let q : round f t (b * c - a * c) c ≡ round f t (b - a) 1 = round_same f t (b * c - a * c) c (b - a) 1 h (lit< tt) (mul-one (b * c - a * c) ∙ sym (sub_mul b a c)) in
    let r : (u : Bool) → round f u (a * c - b * c) c ≡ round f u (a - b) 1 = λ u. round_same f u (a * c - b * c) c (a - b) 1 h (lit< tt) (mul-one (a * c - b * c) ∙ sym (sub_mul a b c)) in
    rw (p, q, ltb_scale a b c h, ltb_scale b a c h, r (s && ltb b a)) refl

pub sub_values : (x y : Float) (s t : Bool) (a b : ℕ) → HasValue x s a 1 → HasValue y t b 1 → sub binary64 x y ≡ sum binary64 s a (not t) b 1
unfolding sub
sub_values nan y s t a b p q = absurd p
sub_values (inf u) y s t a b p q = absurd p
sub_values (fin u m e) nan s t a b p q = absurd q
sub_values (fin u m e) (inf v) s t a b p q = absurd q
sub_values (fin u m e) (fin v n d) s t a b p q =
    let c = down e * down d in
    let l : m * up e * down d ≡ a * c = ap (λ z. z * down d) (sym (mul-one (m * up e)) ∙ p.1) ∙ mul_assoc a (down e) (down d) in
    let r : n * up d * down e ≡ b * c = ap (λ z. z * down e) (sym (mul-one (n * up d)) ∙ q.1) ∙ mul_assoc b (down d) (down e) ∙ ap (λ z. b * z) (mul_comm (down d) (down e)) in
    (λ i. sum binary64 (p.0 i) (l i) (not (q.0 i)) (r i) c) ∙ sum_scale binary64 s (not t) a b c (mul-pos (down_pos e) (down_pos d))

-- at the integers of 32 bits
abbrev pub sign : ℤ → Bool
sign (pos n) = false
sign (negsuc n) = true

pub of_int_lem : (z : ℤ) → nat_abs z ≤ 2 ^ 53 → HasValue (of_int binary64 z) (sign z) (nat_abs z) 1
unfolding of_int
of_int_lem (pos n) h = round_whole binary64 false n h
of_int_lem (negsuc n) h = round_whole binary64 true (suc n) h

-- the sum that `sub` comes to, where the first is at least the second
gap_of : (a b : ℤ) → lt_z a b ≡ false → sum binary64 (sign a) (nat_abs a) (not (sign b)) (nat_abs b) 1 ≡ round binary64 false (nat_abs (a -ℤ b)) 1
unfolding sum
gap_of (pos m) (pos n) h =
    let t : ltb m n ≡ false = h in
    let l : n ≤ m = grind (arith, nat_tests) in
    let z : pos m -ℤ pos n ≡ pos (m - n) = omega (arith, ints) in
    rw (z, t) refl
gap_of (pos m) (negsuc n) h =
    let z : pos m -ℤ negsuc n ≡ pos (m + suc n) = omega (arith, ints) in
    sym (ap (λ w. round binary64 false (nat_abs w) 1) z)
gap_of (negsuc m) (pos n) h = absurd (grind arith)
gap_of (negsuc m) (negsuc n) h =
    let l : m ≤ n = grind (arith, nat_tests) in
    let z : negsuc m -ℤ negsuc n ≡ pos (n - m) = omega (arith, ints) in
    elim (cases_lt m n) [
      | inl k ↦
          let t : ltb (suc m) (suc n) ≡ true = lt-ltb (suc m) (suc n) (omega arith) in
          let e : suc n - suc m ≡ n - m = omega arith in
          rw (z, t, e) refl
      | inr g ↦
          let t : ltb (suc m) (suc n) ≡ false = le-ltb (suc m) (suc n) (omega arith) in
          let u : ltb (suc n) (suc m) ≡ false = le-ltb (suc n) (suc m) (omega arith) in
          let e : suc m - suc n ≡ n - m = omega arith in
          rw (z, t, u, e) refl
    ]

small : (a b : ℤ) → nat_abs a ≤ 2 ^ 31 → nat_abs b ≤ 2 ^ 31 → lt_z a b ≡ false → nat_abs (a -ℤ b) ≤ 2 ^ 53
small (pos m) (pos n) j k h =
    let l : n ≤ m = grind (arith, nat_tests) in
    let z : pos m -ℤ pos n ≡ pos (m - n) = omega (arith, ints) in
    subst (λ w. nat_abs w ≤ 2 ^ 53) (sym z) (omega arith)
small (pos m) (negsuc n) j k h =
    let z : pos m -ℤ negsuc n ≡ pos (m + suc n) = omega (arith, ints) in
    subst (λ w. nat_abs w ≤ 2 ^ 53) (sym z) (omega arith)
small (negsuc m) (pos n) j k h = absurd (grind arith)
small (negsuc m) (negsuc n) j k h =
    let l : m ≤ n = grind (arith, nat_tests) in
    let z : negsuc m -ℤ negsuc n ≡ pos (n - m) = omega (arith, ints) in
    subst (λ w. nat_abs w ≤ 2 ^ 53) (sym z) (omega arith)

-- the difference of two, the larger first, compares with d as the exact difference
pub exact : (d : Float) (a b : ℤ) → nat_abs a ≤ 2 ^ 31 → nat_abs b ≤ 2 ^ 31 → lt_z a b ≡ false
    → lt d (sub binary64 (of_int binary64 a) (of_int binary64 b)) ≡ beyond_int d a b
exact d a b j k h =
    let x = of_int_lem a (omega arith) in
    let y = of_int_lem b (omega arith) in
    let s : nat_abs (a -ℤ b) ≤ 2 ^ 53 = small a b j k h in
    ap (lt d) (sub_values _ _ (sign a) (sign b) (nat_abs a) (nat_abs b) x y ∙ gap_of a b h)
    ∙ lt_value d (round binary64 false (nat_abs (a -ℤ b)) 1) false (nat_abs (a -ℤ b)) (round_whole binary64 false (nat_abs (a -ℤ b)) s)

pub turned : (d : Float) (a b : ℤ) → beyond_int d b a ≡ beyond_int d a b
turned d a b = search rules
