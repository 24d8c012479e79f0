-- Lists of records by their keys.
use Rattle.std.proofs.Common.{◌≡◌, ℕ, suc, ◌≤◌, Bool, true, false, cond, eqb, List, [], ◌∷◌, map, length, is_some, Some, filter, sym, refl, inl, inr, arith}
use Rattle.std.specs.List.{AllByRecursion}
use Rattle.std.proofs.lemmas.Bool.{eqb-true, eqb-false, true≢false}
use Rattle.fifo.specs.Lists.{lookup}
use Rattle.model.specs.Sound.{In}

pub some_same : {X : Type 0} (x y : X) → Some x ≡ Some y → x ≡ y
some_same x y e = cc

module _ {X : Type 0} (f : X → ℕ) where
  pub found_in : (k : ℕ) (xs : List X) → is_some (lookup f k xs) ≡ true → In k (map f xs)
  found_in k [] e = absurd (true≢false (sym e))
  found_in k (x ∷ xs) e = at (eqb (f x) k) refl e (found_in k xs)
    where
      at : (b : Bool) → eqb (f x) k ≡ b → is_some (cond b (Some x) (lookup f k xs)) ≡ true → (is_some (lookup f k xs) ≡ true → In k (map f xs)) → In k (map f (x ∷ xs))
      at true t e ih = inl (eqb-true (f x) k t)
      at false t e ih = inr (ih e)

  pub not_found : (k : ℕ) (xs : List X) → is_some (lookup f k xs) ≡ false → In k (map f xs) → ⊥
  not_found k [] e h = h
  not_found k (x ∷ xs) e h = at (eqb (f x) k) refl e h (not_found k xs)
    where
      at : (b : Bool) → eqb (f x) k ≡ b → is_some (cond b (Some x) (lookup f k xs)) ≡ false → In k (map f (x ∷ xs)) → (is_some (lookup f k xs) ≡ false → In k (map f xs) → ⊥) → ⊥
      at true t e h ih = true≢false e
      at false t e (inl p) ih = eqb-false (f x) k t p
      at false t e (inr h) ih = ih e h

pub all_both : {X : Type 0} (P Q : X → Type 0) (xs : List X) → AllByRecursion P xs → AllByRecursion Q xs → AllByRecursion (λ x. P x × Q x) xs
all_both P Q [] a b = tt
all_both P Q (x ∷ xs) a b = ((a.0, b.0), all_both P Q xs a.1 b.1)

-- a property of what a function gives
pub all_mapped : {X : Type 0} (P Q : X → Type 0) (g : X → X) → ((x : X) → P x → Q (g x)) → (xs : List X) → AllByRecursion P xs → AllByRecursion Q (map g xs)
all_mapped P Q g h [] a = tt
all_mapped P Q g h (x ∷ xs) a = (h x a.0, all_mapped P Q g h xs a.1)

-- what passes a filter has the property and passes
pub all_passing : {X : Type 0} (P Q : X → Type 0) (p : X → Bool) → ((x : X) → P x → p x ≡ true → Q x) → (xs : List X) → AllByRecursion P xs → AllByRecursion Q (filter p xs)
all_passing P Q p h [] a = tt
all_passing P Q p h (x ∷ xs) a = at (p x) refl (all_passing P Q p h xs a.1)
  where
    at : (b : Bool) → p x ≡ b → AllByRecursion Q (filter p xs) → AllByRecursion Q (cond b (x ∷ filter p xs) (filter p xs))
    at true e ih = (h x a.0 e, ih)
    at false e ih = ih

pub length_passing : {X : Type 0} (p : X → Bool) (xs : List X) → length (filter p xs) ≤ length xs
length_passing p [] = omega arith
length_passing p (x ∷ xs) = at (p x) (length_passing p xs)
  where
    at : (b : Bool) → length (filter p xs) ≤ length xs → length (cond b (x ∷ filter p xs) (filter p xs)) ≤ suc (length xs)
    at true h = omega arith
    at false h = omega arith
