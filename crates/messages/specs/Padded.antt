use Rattle.std.specs.Prelude.{ℕ, min, List, ◌++◌, length, take, drop, replicate}

-- the list over the front of n times x
abbrev pub padded : {X : Type 0} → ℕ → X → List X → List X
padded n x xs = xs ++ drop (length xs) (replicate n x)

-- the first `count` of an array of n
abbrev pub counted : {X : Type 0} → ℕ → ℕ → List X → List X
counted n count xs = take (min count n) xs
