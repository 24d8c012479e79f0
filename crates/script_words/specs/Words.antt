-- The words of a line.
use Rattle.std.specs.Prelude.{ℕ, suc, ◌-◌, Bool, cond, not, ◌||◌, List, [], ◌∷◌, ◌++◌, length, take, ◌==◌, slice_index}
use Rattle.std.specs.List.{before_first}
use Rattle.script_words.specs.declared.words.Class.{Class}
use Rattle.script_words.specs.declared.words.Class.TheVariants.{Blank, Visible, Byte}

-- a space or a tab
abbrev pub is_blank : ℕ → Bool
is_blank b = b == 32 || b == 9

abbrev pub is_visible : ℕ → Bool
is_visible b = not (is_blank b)

abbrev pub in_class : Class → ℕ → Bool
in_class Blank b = is_blank b
in_class Visible b = is_visible b
in_class (Byte wanted) b = b == wanted

-- the place of the first byte with the property, or the length
abbrev pub place : (ℕ → Bool) → List ℕ → ℕ
place p [] = 0
place p (b ∷ bs) = cond (p b) 0 (suc (place p bs))

-- without a carriage return as the last byte
abbrev pub without_return : List ℕ → List ℕ
without_return line = cond (slice_index line (length line - 1) == 13) (take (length line - 1) line) line

-- up to the first #
abbrev pub before_comment : List ℕ → List ℕ
before_comment line = before_first (λ b. b == 35) line

abbrev pub content_of : List ℕ → List ℕ
content_of line = before_comment (without_return line)

-- a word that has ended, before others; no word is empty
abbrev pub ended : List ℕ → List (List ℕ) → List (List ℕ)
ended [] words = words
ended (b ∷ bs) words = (b ∷ bs) ∷ words

-- the words of the bytes, of the first of which the given bytes were read before
abbrev pub words_from : List ℕ → List ℕ → List (List ℕ)
words_from begun [] = ended begun []
words_from begun (b ∷ bs) = cond (is_blank b) (ended begun (words_from [] bs)) (words_from (begun ++ b ∷ []) bs)

abbrev pub words_in : List ℕ → List (List ℕ)
words_in content = words_from [] content

abbrev pub words_of : List ℕ → List (List ℕ)
words_of line = words_in (content_of line)
