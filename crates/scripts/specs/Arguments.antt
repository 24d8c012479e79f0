-- What the words of a command stand for, by their index. A word that is not there is empty.
use Rattle.std.specs.Prelude.{◌≡◌, ℕ, suc, Bool, true, false, cond, List, [], ◌∷◌, length, take, drop, ℤ, pos, Some, None, Ok, Err, codes, Option, Result, ◌==◌, slice_index_or, Float}
use Rattle.std.specs.List.{position}
use Rattle.std.specs.Option.{ok_or}
use Rattle.values.specs.declared.value.Value.{Value}
use Rattle.values.specs.declared.value.Value.TheVariants as value
use Rattle.answers.specs.declared.acknowledgement.Acknowledgement.{Acknowledgement}
use Rattle.script_numbers.specs.Doubles.{double_of}
use Rattle.script_numbers.specs.Numbers.{number_of, status_of, signed_of}
use Rattle.script_words.specs.Texts.{is_text, rest_after}
use Rattle.script_words.specs.Words.{words_in}
use Rattle.scripts.specs.declared.arguments.Arguments.{Arguments}
use Rattle.scripts.specs.declared.expected.Expected.{Expected}
use Rattle.scripts.specs.declared.expected.Expected.TheVariants as expected

-- the words that are not read yet
abbrev pub left : Arguments → List (List ℕ)
left a = words_in a.words.rest.now

-- one word is read
pub record TookWord (old new : Arguments) : Type 0 where
  pub words : left new ≡ drop 1 (left old)
  pub other : new.other ≡ old.other

-- goes on with what was read
abbrev pub reading : {X Y : Type 0} → Result X Expected → (X → Result Y Expected) → Result Y Expected
reading (Ok x) f = f x
reading (Err e) f = Err e

abbrev pub word_at : List (List ℕ) → ℕ → List ℕ
word_at ws i = slice_index_or ws i []

abbrev pub number_at : List (List ℕ) → ℕ → Result ℕ Expected
number_at ws i = ok_or (number_of (word_at ws i)) expected.Number

abbrev pub signed_at : List (List ℕ) → ℕ → Result ℤ Expected
signed_at ws i = ok_or (signed_of 2147483648 (word_at ws i)) expected.Signed

abbrev pub double_at : List (List ℕ) → ℕ → Option Float → Result Float Expected
double_at ws i other = ok_or (double_of (word_at ws i) other) expected.Double

-- 0 where it is left out
abbrev pub status_at : List (List ℕ) → ℕ → Result ℕ Expected
status_at ws i = cond (length (word_at ws i) == 0) (Ok 0) (ok_or (status_of (word_at ws i)) expected.Status)

-- 0 where it is left out
abbrev pub time_at : List (List ℕ) → ℕ → Result ℤ Expected
time_at ws i = cond (length (word_at ws i) == 0) (Ok (pos 0)) (ok_or (signed_of 9223372036854775808 (word_at ws i)) expected.Time)

-- 1 where it is left out
abbrev pub count_at : List (List ℕ) → ℕ → Result ℕ Expected
count_at ws i = cond (length (word_at ws i) == 0) (Ok 1) (ok_or (number_of (word_at ws i)) expected.Number)

-- whether the word is the first of two texts, where it has to be one of them
abbrev pub either_at : List (List ℕ) → ℕ → List ℕ → List ℕ → Expected → Result Bool Expected
either_at ws i first second e = cond (is_text (word_at ws i) first) (Ok true) (cond (is_text (word_at ws i) second) (Ok false) (Err e))

abbrev pub switch_at : List (List ℕ) → ℕ → Result Bool Expected
switch_at ws i = either_at ws i (codes "on") (codes "off") expected.Switch

-- whether the oldest is discarded
abbrev pub policy_at : List (List ℕ) → ℕ → Result Bool Expected
policy_at ws i = either_at ws i (codes "oldest") (codes "newest") expected.Policy

abbrev pub int32_of : Option ℤ → Option Value
int32_of None = None
int32_of (Some n) = Some (value.Int32 n)

abbrev pub double_value_of : Option Float → Option Value
double_value_of None = None
double_value_of (Some x) = Some (value.Double x)

abbrev pub as_double : Option (List ℕ) → Option Float → Option Value
as_double None other = None
as_double (Some rest) other = double_value_of (double_of rest other)

abbrev pub as_number : Option (List ℕ) → List ℕ → Option Float → Option Value
as_number None word other = as_double (rest_after (codes "double:") word) other
as_number (Some rest) word other = int32_of (signed_of 2147483648 rest)

-- empty, true, false, int32:N or double:X
abbrev pub value_of : List ℕ → Option Float → Option Value
value_of word other =
    cond (is_text word (codes "empty")) (Some value.Empty)
    (cond (is_text word (codes "true")) (Some (value.Boolean true))
    (cond (is_text word (codes "false")) (Some (value.Boolean false))
    (as_number (rest_after (codes "int32:") word) word other)))

abbrev pub value_at : List (List ℕ) → ℕ → Option Float → Result Value Expected
value_at ws i other = ok_or (value_of (word_at ws i) other) expected.Value

-- no word is left
abbrev pub end_at : List (List ℕ) → ℕ → Result (Unit {0}) Expected
end_at ws i = cond (length (word_at ws i) == 0) (Ok tt) (Err expected.End)

abbrev pub both_of : Option ℕ → Option ℕ → Option Acknowledgement
both_of None n = None
both_of (Some s) None = None
both_of (Some s) (Some n) = Some (record { subscription = s; number = n })

abbrev pub at_colon : Option ℕ → List ℕ → Option Acknowledgement
at_colon None word = None
at_colon (Some i) word = both_of (number_of (take i word)) (number_of (drop (suc i) word))

-- SUB:NUMBER
abbrev pub acknowledgement_of : List ℕ → Option Acknowledgement
acknowledgement_of word = at_colon (position (λ b. b == 58) word) word

abbrev pub with_first : Option Acknowledgement → Result (List Acknowledgement) Expected → Result (List Acknowledgement) Expected
with_first None others = Err expected.Acknowledgement
with_first (Some a) (Ok others) = Ok (a ∷ others)
with_first (Some a) (Err e) = Err e

-- every word is an acknowledgement
abbrev pub acknowledgements_of : List (List ℕ) → Result (List Acknowledgement) Expected
acknowledgements_of [] = Ok []
acknowledgements_of (w ∷ ws) = with_first (acknowledgement_of w) (acknowledgements_of ws)
