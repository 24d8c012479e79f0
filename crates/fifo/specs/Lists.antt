-- Lists of records, each with a number as its key.
use Rattle.std.specs.Prelude.{ℕ, suc, Bool, true, false, cond, List, [], ◌∷◌, Some, None, Option, ◌==◌}
use Rattle.std.specs.Option.{option_map}

-- whether the list is empty
abbrev pub none : {X : Type 0} → List X → Bool
none [] = true
none (x ∷ xs) = false

-- the first element, which is the oldest of a queue
abbrev pub first : {X : Type 0} → List X → Option X
first [] = None
first (x ∷ xs) = Some x

-- all but the first element
abbrev pub rest : {X : Type 0} → List X → List X
rest [] = []
rest (x ∷ xs) = xs

-- the place of the first element with the key k
abbrev pub position : {X : Type 0} → (X → ℕ) → ℕ → List X → Option ℕ
position f k [] = None
position f k (x ∷ xs) = cond (f x == k) (Some 0) (option_map suc (position f k xs))

-- the first element with the key k
abbrev pub lookup : {X : Type 0} → (X → ℕ) → ℕ → List X → Option X
lookup f k [] = None
lookup f k (x ∷ xs) = cond (f x == k) (Some x) (lookup f k xs)

-- y in the place of the first element with its key
abbrev pub replaced : {X : Type 0} → (X → ℕ) → X → List X → List X
replaced f y [] = []
replaced f y (x ∷ xs) = cond (f x == f y) (y ∷ xs) (x ∷ replaced f y xs)

-- the list without the first element with the key k
abbrev pub without : {X : Type 0} → (X → ℕ) → ℕ → List X → List X
without f k [] = []
without f k (x ∷ xs) = cond (f x == k) xs (x ∷ without f k xs)
