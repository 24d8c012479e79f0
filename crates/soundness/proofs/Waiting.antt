-- The waiting samples of an item: the newest of them, and how many there are.
use Rattle.std.proofs.Common.{◌≡◌, ℕ, ◌-◌, ◌≤◌, Bool, true, false, cond, ltb, leb, ◌⊎◌, List, [], ◌∷◌, ◌++◌, length, take, drop, Some, refl, ap, ◌∙◌, inl, inr, arith}
use Rattle.std.proofs.lemmas.List.{length_push, length-take, length-drop}
use Rattle.std.proofs.lemmas.Bool.{ltb-true, leb-true, leb-false}
use Rattle.fifo.specs.Lists.{rest}
use Rattle.values.specs.declared.value.Sample.{Sample}
use Rattle.items.specs.declared.waiting.Waiting.{Waiting}
use Rattle.items.specs.Queue.{unmarked, marked, mark_oldest, overflowed, queued, resized}
use Rattle.model.specs.Sound.{newest}

pub newest_push : (ws : List Waiting) (w : Waiting) → newest (ws ++ w ∷ []) ≡ Some w.sample
newest_push [] w = refl
newest_push (x ∷ []) w = refl
newest_push (x ∷ y ∷ ws) w = newest_push (y ∷ ws) w

pub newest_marked : (ws : List Waiting) → newest (mark_oldest ws) ≡ newest ws
newest_marked [] = refl
newest_marked (w ∷ []) = refl
newest_marked (w ∷ v ∷ ws) = refl

pub length_marked : (ws : List Waiting) → length (mark_oldest ws) ≡ length ws
length_marked [] = refl
length_marked (w ∷ ws) = refl

-- the oldest goes
pub newest_rest : (ws : List Waiting) (v : Sample) → (ws ≡ []) ⊎ (newest ws ≡ Some v) → (rest ws ≡ []) ⊎ (newest (rest ws) ≡ Some v)
newest_rest [] v h = inl refl
newest_rest (w ∷ []) v h = inl refl
newest_rest (w ∷ x ∷ ws) v (inl e) = let n = ap length e in absurd (omega arith)
newest_rest (w ∷ x ∷ ws) v (inr e) = inr e

pub length_rest : {X : Type 0} (xs : List X) → length (rest xs) ≡ length xs - 1
length_rest [] = refl
length_rest (x ∷ xs) = omega arith

-- a sample is queued
module _ (size : ℕ) (ws : List Waiting) (s : Sample) where
  full_newest : (b : Bool) → newest (overflowed b ws s) ≡ Some s
  full_newest true = newest_marked (rest ws ++ unmarked s ∷ []) ∙ newest_push (rest ws) (unmarked s)
  full_newest false = newest_push (take (length ws - 1) ws) (marked (unmarked s))

  pub queued_newest : (oldest : Bool) → newest (queued size oldest ws s) ≡ Some s
  queued_newest oldest = at (ltb (length ws) size)
    where
      at : (b : Bool) → newest (cond b (ws ++ unmarked s ∷ []) (overflowed oldest ws s)) ≡ Some s
      at true = newest_push ws (unmarked s)
      at false = full_newest oldest

  full_fits : (b : Bool) → 1 ≤ size → length ws ≤ size → length (overflowed b ws s) ≤ size
  full_fits true p h =
      let m = length_marked (rest ws ++ unmarked s ∷ []) in
      let n = length_push (rest ws) (unmarked s) in
      let r = length_rest ws in
      omega arith
  full_fits false p h =
      let n = length_push (take (length ws - 1) ws) (marked (unmarked s)) in
      let r = length-take (length ws - 1) ws in
      omega arith

  pub queued_fits : (oldest : Bool) → 1 ≤ size → length ws ≤ size → length (queued size oldest ws s) ≤ size
  queued_fits oldest p h = at (ltb (length ws) size) refl
    where
      at : (b : Bool) → ltb (length ws) size ≡ b → length (cond b (ws ++ unmarked s ∷ []) (overflowed oldest ws s)) ≤ size
      at true e = let l = ltb-true (length ws) size e in let n = length_push ws (unmarked s) in omega arith
      at false e = full_fits oldest p h

-- a new size
pub resized_fits : (size : ℕ) (ws : List Waiting) → length (resized size ws) ≤ size
resized_fits size ws = at (leb (length ws) size) refl
  where
    at : (b : Bool) → leb (length ws) size ≡ b → length (cond b ws (mark_oldest (drop (length ws - size) ws))) ≤ size
    at true e = leb-true (length ws) size e
    at false e =
        let l = leb-false (length ws) size e in
        let m = length_marked (drop (length ws - size) ws) in
        let d = length-drop (length ws - size) ws in
        omega arith
