-- The Double in a word.
use Rattle.std.specs.Prelude.{ℕ, ◌+◌, ◌-◌, ◌*◌, ◌^◌, true, false, cond, ◌&&◌, List, Some, None, codes, fold, Option, ◌==◌, nat_le, nat_lt, Float}
use Rattle.std.specs.Float.{nan, inf, binary64}
use Rattle.std.specs.Float.Ieee.{round, neg}
use Rattle.script_words.specs.Texts.{is_text, rest_after}
use Rattle.script_numbers.specs.declared.double.Reading.{Reading}
use Rattle.script_numbers.specs.declared.double.Reading.TheVariants.{Start, Whole, Point, Fraction}

abbrev pub more : ℕ → ℕ → Option ℕ
more n d = cond (nat_lt (n * 10 + d) 18446744073709551616) (Some (n * 10 + d)) None

-- the digits so far, with one more: as a number, while it is below 2^64
abbrev pub whole_of : Option ℕ → Option Reading
whole_of None = None
whole_of (Some n) = Some (Whole n)

-- and how many of them stand behind the point
abbrev pub fraction_of : Option ℕ → ℕ → Option Reading
fraction_of None k = None
fraction_of (Some n) k = cond (nat_lt (k + 1) 4294967296) (Some (Fraction n (k + 1))) None

abbrev pub on_digit : Reading → ℕ → Option Reading
on_digit Start d = Some (Whole d)
on_digit (Whole n) d = whole_of (more n d)
on_digit Point d = Some (Fraction d 1)
on_digit (Fraction n k) d = fraction_of (more n d) k

abbrev pub on_point : Reading → Option Reading
on_point Start = Some Point
on_point (Whole n) = Some (Fraction n 0)
on_point Point = None
on_point (Fraction n k) = None

abbrev pub on_byte : Reading → ℕ → Option Reading
on_byte r b = cond (nat_le 48 b && nat_le b 57) (on_digit r (b - 48)) (cond (b == 46) (on_point r) None)

-- one more byte; what cannot be read stays so
abbrev pub step : Option Reading → ℕ → Option Reading
step None b = None
step (Some r) b = on_byte r b

-- the Double nearest to n / 10^k, for an n up to 2^53 and a k up to 15
abbrev pub ratio_of : ℕ → ℕ → Option Float
ratio_of n k = cond (nat_le n 9007199254740992) (cond (nat_le k 15) (Some (round binary64 false n (10 ^ k))) None) None

abbrev pub value_in : Reading → Option Float
value_in Start = None
value_in (Whole n) = ratio_of n 0
value_in Point = None
value_in (Fraction n k) = ratio_of n k

abbrev pub value_of : Option Reading → Option Float
value_of None = None
value_of (Some r) = value_in r

-- digits, at least one, with at most one point among them
abbrev pub magnitude_of : List ℕ → Option Float
magnitude_of digits = value_of (fold step (Some Start) digits)

abbrev pub negated : Option Float → Option Float
negated None = None
negated (Some x) = Some (neg x)

abbrev pub signed_double : Option (List ℕ) → List ℕ → Option Float
signed_double None word = magnitude_of word
signed_double (Some digits) word = negated (magnitude_of digits)

unfoldable pub exact_of : List ℕ → Option Float
exact_of word =
    cond (is_text word (codes "nan")) (Some nan)
    (cond (is_text word (codes "inf")) (Some (inf false))
    (cond (is_text word (codes "-inf")) (Some (inf true))
    (signed_double (rest_after (codes "-") word) word)))

abbrev pub or_other : Option Float → Option Float → Option Float
or_other None other = other
or_other (Some x) other = Some x

-- the Double in a word: the nearest one where its digits make a number up to 2^53 with at most 15 of them behind the point; in
-- all other forms `other`, which the standard library read
abbrev pub double_of : List ℕ → Option Float → Option Float
double_of word other = or_other (exact_of word) other
