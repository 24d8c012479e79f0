-- The two laws of `beyond_double`.
use Rattle.std.specs.Prelude.{◌≡◌, ℕ, ◌*◌, Bool, true, false, cond, refl, Float}
use Rattle.std.proofs.Common.{arith, eq-eqb}
use Rattle.std.specs.Float.{nan, inf, fin, binary64}
use Rattle.std.specs.Float.Ieee.{is_nan, lt, eq, level, below, up, down, sub}
use Rattle.std.proofs.lemmas.Bool.Decides.{nat_tests}
use Rattle.values.specs.Beyond.{beyond_double}

-- a finite number equals itself
same : (s : Bool) (a : ℕ) → level s a s a ≡ true
same true a = rw (eq-eqb a a refl) refl
same false a = rw (eq-eqb a a refl) refl

pub itself : (d x : Float) → beyond_double d x x ≡ false
unfolding is_nan eq lt
itself d nan = refl
itself d (inf true) = refl
itself d (inf false) = refl
itself d (fin s m e) = rw (same s (m * up e * down e)) refl

-- of two finite numbers that differ exactly one is the larger
swap : (s t : Bool) (a b : ℕ) (f : Float → Bool) (u v : Float)
    → cond (level s a t b) false (f (cond (below t b s a) u v)) ≡ cond (level t b s a) false (f (cond (below s a t b) v u))
swap true true a b f u v = grind (arith, nat_tests)
swap true false a b f u v = grind (arith, nat_tests)
swap false true a b f u v = grind (arith, nat_tests)
swap false false a b f u v = grind (arith, nat_tests)

pub either : (d x y : Float) → beyond_double d x y ≡ beyond_double d y x
unfolding is_nan eq lt
either d nan nan = refl
either d nan (inf t) = refl
either d nan (fin t n g) = refl
either d (inf s) nan = refl
either d (inf true) (inf true) = refl
either d (inf true) (inf false) = refl
either d (inf false) (inf true) = refl
either d (inf false) (inf false) = refl
either d (inf true) (fin t n g) = refl
either d (inf false) (fin t n g) = refl
either d (fin s m e) nan = refl
either d (fin s m e) (inf true) = refl
either d (fin s m e) (inf false) = refl
either d (fin s m e) (fin t n g) =
    swap s t (m * up e * down g) (n * up g * down e) (lt d) (sub binary64 (fin s m e) (fin t n g)) (sub binary64 (fin t n g) (fin s m e))
