-- The number in a word.
use Rattle.std.specs.Prelude.{◌≡◌, ℕ, ◌+◌, ◌-◌, ◌*◌, ◌<◌, cond, ◌&&◌, List, [], ◌∷◌, length, ℤ, pos, neg_ℤ, Some, None, decimal, fold, Option, ◌==◌, nat_le, nat_lt}
use Rattle.std.specs.Option.{option_map}
use Rattle.script_words.specs.Texts.{rest_after}

-- the value of a digit: 0 to 9, and a to f in either case
abbrev pub digit_of : ℕ → Option ℕ
digit_of b =
    cond (nat_le 48 b && nat_le b 57) (Some (b - 48))
    (cond (nat_le 97 b && nat_le b 102) (Some (b - 87))
    (cond (nat_le 65 b && nat_le b 70) (Some (b - 55)) None))

-- one more digit of the base, while the number is below 2^64
abbrev pub with_digit : ℕ → ℕ → Option ℕ → Option ℕ
with_digit base n None = None
with_digit base n (Some d) = cond (nat_lt d base) (cond (nat_lt (n * base + d) 18446744073709551616) (Some (n * base + d)) None) None

abbrev pub grown : ℕ → Option ℕ → ℕ → Option ℕ
grown base None b = None
grown base (Some n) b = with_digit base n (digit_of b)

-- the number in the digits of the base, at least one of them; it is below 2^64
abbrev pub numeral_of : ℕ → List ℕ → Option ℕ
numeral_of base digits = cond (length digits == 0) None (fold (grown base) (Some 0) digits)

abbrev pub below32 : Option ℕ → Option ℕ
below32 None = None
below32 (Some n) = cond (nat_lt n 4294967296) (Some n) None

-- an unsigned number of 32 bits, in decimal
unfoldable pub number_of : List ℕ → Option ℕ
number_of word = below32 (numeral_of 10 word)

abbrev pub in_hexadecimal : Option (List ℕ) → List ℕ → Option ℕ
in_hexadecimal None word = number_of word
in_hexadecimal (Some digits) word = below32 (numeral_of 16 digits)

-- an unsigned number of 32 bits, in decimal, or in hexadecimal behind 0x
unfoldable pub status_of : List ℕ → Option ℕ
status_of word = in_hexadecimal (rest_after (48 ∷ 120 ∷ []) word) word

abbrev pub positive : ℕ → Option ℕ → Option ℤ
positive limit None = None
positive limit (Some n) = cond (nat_lt n limit) (Some (pos n)) None

abbrev pub negative : ℕ → Option ℕ → Option ℤ
negative limit None = None
negative limit (Some n) = cond (nat_le n limit) (Some (neg_ℤ (pos n))) None

abbrev pub by_sign : ℕ → Option (List ℕ) → List ℕ → Option ℤ
by_sign limit None word = positive limit (numeral_of 10 word)
by_sign limit (Some digits) word = negative limit (numeral_of 10 digits)

-- a number below the limit in decimal, or a minus and a number up to the limit
unfoldable pub signed_of : ℕ → List ℕ → Option ℤ
signed_of limit word = by_sign limit (rest_after (45 ∷ []) word) word

abbrev pub with_sign : Option (List ℕ) → List ℕ → Option ℤ
with_sign None word = option_map pos (numeral_of 10 word)
with_sign (Some digits) word = option_map (λ n. neg_ℤ (pos n)) (numeral_of 10 digits)

-- a number in decimal, or a minus and a number
unfoldable pub integer_of : List ℕ → Option ℤ
integer_of word = with_sign (rest_after (45 ∷ []) word) word

-- a number written in decimal is read back as it is
abbrev pub ReadsBack : List ℕ → Option ℕ → Type 0
ReadsBack word r = (n : ℕ) → n < 4294967296 → word ≡ decimal n → r ≡ Some n
