-- A word as a text, and its beginning.
use Rattle.std.specs.Prelude.{ℕ, Bool, cond, List, [], ◌∷◌, Some, None, Option, ◌==◌}
use Rattle.std.specs.Borrow.{Bor}
use Rattle.std.specs.Str.{bytes_eq}

-- the word is this text, byte by byte
unfoldable pub is_text : List ℕ → List ℕ → Bool
is_text word text = bytes_eq word text

-- the answer with the reference read
abbrev pub plain_rest : Option (Bor (List ℕ)) → Option (List ℕ)
plain_rest None = None
plain_rest (Some r) = Some r.now

-- what follows the prefix
abbrev pub rest_after : List ℕ → List ℕ → Option (List ℕ)
rest_after [] bs = Some bs
rest_after (p ∷ ps) [] = None
rest_after (p ∷ ps) (b ∷ bs) = cond (p == b) (rest_after ps bs) None
