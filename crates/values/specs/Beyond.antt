-- Whether two numbers lie more than d apart, for each kind of number.
use Rattle.std.specs.Prelude.{◌≡◌, ℕ, Bool, true, false, cond, not, ℤ, pos, ◌-ℤ◌, is_nan, unsigned_abs, Float}
use Rattle.std.specs.Float.{fin, binary64}
use Rattle.std.specs.Float.Ieee.{lt, eq, sub}

-- the whole number n, with no rounding: `lt` compares the numbers that two floats stand for
abbrev pub exactly : ℕ → Float
exactly n = fin false n (pos 0)

abbrev pub NotBelowZero : Float → Type 0
NotBelowZero d = lt d (exactly 0) ≡ false

-- the exact difference without sign is above d
abbrev pub beyond_int : Float → ℤ → ℤ → Bool
beyond_int d a b = lt d (exactly (unsigned_abs (a -ℤ b)))

-- the larger minus the smaller, rounded once
abbrev pub gap : Float → Float → Float
gap x y = cond (lt y x) (sub binary64 x y) (sub binary64 y x)

-- two not-a-numbers are not beyond, one against a number is, equal numbers are not, and otherwise the difference is above d
abbrev pub beyond_double : Float → Float → Float → Bool
beyond_double d x y = cond (is_nan x) (not (is_nan y)) (cond (is_nan y) true (cond (eq x y) false (lt d (gap x y))))
