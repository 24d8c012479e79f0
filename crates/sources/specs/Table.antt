-- Tables of at most 64 rows, each with a node.
use Rattle.std.specs.Prelude.{ℕ, Bool, true, false, cond, List, [], ◌∷◌, length, is_some, ◌==◌, nat_lt}
use Rattle.fifo.specs.Lists.{lookup}

-- the node has a row, or there are fewer than 64
abbrev pub has_room : {X : Type 0} → (X → ℕ) → ℕ → List X → Bool
has_room f n rows = cond (nat_lt (length rows) 64) true (is_some (lookup f n rows))

-- the row in the place of its node's row, or last
abbrev pub put : {X : Type 0} → (X → ℕ) → X → List X → List X
put f y [] = y ∷ []
put f y (x ∷ xs) = cond (f x == f y) (y ∷ xs) (x ∷ put f y xs)

-- whether all rows pass a test
abbrev pub every : {X : Type 0} → (X → Bool) → List X → Bool
every p [] = true
every p (x ∷ xs) = cond (p x) (every p xs) false
