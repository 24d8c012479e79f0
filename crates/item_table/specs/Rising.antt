-- Items by rising id.
use Rattle.std.specs.Prelude.{ℕ, Bool, true, false, cond, List, [], ◌∷◌, nat_lt}
use Rattle.items.specs.Item.{Item}
use Rattle.items.specs.Keys.{id_of}

-- each key is above the one before it, the first above b
abbrev pub rising_by : {X : Type 0} → (X → ℕ) → ℕ → List X → Bool
rising_by f b [] = true
rising_by f b (x ∷ xs) = cond (nat_lt b (f x)) (rising_by f (f x) xs) false

abbrev pub rising : List Item → Bool
rising xs = rising_by id_of 0 xs
