-- What a key finds in a list: by its place, after a change, and through a map.
use Rattle.std.proofs.Common.{◌≡◌, ℕ, zero, suc, ◌<◌, Bool, true, false, cond, eqb, List, [], ◌∷◌, ◌++◌, map, length, get_or, take, drop, set, Some, None, Option, sym, refl, ap, ◌∙◌, inl, inr, arith}
use Rattle.std.specs.List.{remove}
use Rattle.std.specs.Option.{option_map}
use Rattle.std.proofs.lemmas.List.{map-append, take-map, drop-map}
use Rattle.std.proofs.lemmas.Bool.{eqb-true, eq-eqb, cases_Bool}
use Rattle.fifo.specs.Lists.{position, lookup, replaced, without}

none_some : {X : Type 0} {x : X} → None ≡ Some x → ⊥
none_some e = let z : ◌≡◌ {A = ℕ} 0 1 = cc in omega arith

-- what the place found in x ∷ xs says of the key of x and of the place in xs
module _ {X : Type 0} (f : X → ℕ) (k : ℕ) (x : X) (xs : List X) where
  at_first : position f k (x ∷ xs) ≡ Some 0 → eqb (f x) k ≡ true
  at_first e = by (eqb (f x) k) (position f k xs) e
    where
      by : (b : Bool) (o : Option ℕ) → cond b (Some 0) (option_map suc o) ≡ Some 0 → b ≡ true
      by true o e = refl
      by false None e = absurd (none_some e)
      by false (Some j) e = let z : suc j ≡ 0 = cc in absurd (omega arith)

  at_later : (i : ℕ) → position f k (x ∷ xs) ≡ Some (suc i) → (eqb (f x) k ≡ false) × (position f k xs ≡ Some i)
  at_later i e = by (eqb (f x) k) (position f k xs) e
    where
      by : (b : Bool) (o : Option ℕ) → cond b (Some 0) (option_map suc o) ≡ Some (suc i) → (b ≡ false) × (o ≡ Some i)
      by true o e = let z : 0 ≡ suc i = cc in absurd (omega arith)
      by false None e = absurd (none_some e)
      by false (Some j) e = let z : suc j ≡ suc i = cc in let q : j ≡ i = omega arith in (refl, ap Some q)

  pub at_none : position f k (x ∷ xs) ≡ None → (eqb (f x) k ≡ false) × (position f k xs ≡ None)
  at_none e = by (eqb (f x) k) (position f k xs) e
    where
      by : (b : Bool) (o : Option ℕ) → cond b (Some 0) (option_map suc o) ≡ None → (b ≡ false) × (o ≡ None)
      by true o e = absurd (none_some (sym e))
      by false None e = (refl, refl)
      by false (Some j) e = absurd (none_some (sym e))

module _ {X : Type 0} (f : X → ℕ) where
  -- a place was found
  pub position_lt : (k : ℕ) (xs : List X) (i : ℕ) → position f k xs ≡ Some i → i < length xs
  position_lt k [] i e = absurd (none_some e)
  position_lt k (x ∷ xs) zero e = omega arith
  position_lt k (x ∷ xs) (suc i) e = let h = position_lt k xs i (at_later f k x xs i e).1 in omega arith

  pub key_position : (k : ℕ) (xs : List X) (i : ℕ) (d : X) → position f k xs ≡ Some i → f (get_or xs i d) ≡ k
  key_position k [] i d e = absurd (none_some e)
  key_position k (x ∷ xs) zero d e = eqb-true (f x) k (at_first f k x xs e)
  key_position k (x ∷ xs) (suc i) d e = key_position k xs i d (at_later f k x xs i e).1

  pub lookup_position : (k : ℕ) (xs : List X) (i : ℕ) (d : X) → position f k xs ≡ Some i →
      lookup f k xs ≡ Some (get_or xs i d)
  lookup_position k [] i d e = absurd (none_some e)
  lookup_position k (x ∷ xs) zero d e = rw (at_first f k x xs e)
  lookup_position k (x ∷ xs) (suc i) d e =
      let l = at_later f k x xs i e in rw l.0 (lookup_position k xs i d l.1)

  pub set_position : (k : ℕ) (xs : List X) (i : ℕ) (y : X) → f y ≡ k → position f k xs ≡ Some i →
      set xs i y ≡ replaced f y xs
  set_position k [] i y h e = refl
  set_position k (x ∷ xs) zero y h e = rw (h, at_first f k x xs e)
  set_position k (x ∷ xs) (suc i) y h e =
      let l = at_later f k x xs i e in rw (h, l.0) (ap (λ t. x ∷ t) (set_position k xs i y h l.1))

  pub removed_position : (k : ℕ) (xs : List X) (i : ℕ) → position f k xs ≡ Some i → remove xs i ≡ without f k xs
  removed_position k [] i e = absurd (none_some e)
  removed_position k (x ∷ xs) zero e = rw (at_first f k x xs e)
  removed_position k (x ∷ xs) (suc i) e =
      let l = at_later f k x xs i e in rw l.0 (ap (λ t. x ∷ t) (removed_position k xs i l.1))

  -- none was found
  pub lookup_none : (k : ℕ) (xs : List X) → position f k xs ≡ None → lookup f k xs ≡ None
  lookup_none k [] e = refl
  lookup_none k (x ∷ xs) e = let n = at_none f k x xs e in rw n.0 (lookup_none k xs n.1)

  pub replaced_none : (k : ℕ) (xs : List X) (y : X) → f y ≡ k → position f k xs ≡ None → replaced f y xs ≡ xs
  replaced_none k [] y h e = refl
  replaced_none k (x ∷ xs) y h e =
      let n = at_none f k x xs e in rw (h, n.0) (ap (λ t. x ∷ t) (replaced_none k xs y h n.1))

  pub without_none : (k : ℕ) (xs : List X) → position f k xs ≡ None → without f k xs ≡ xs
  without_none k [] e = refl
  without_none k (x ∷ xs) e = let n = at_none f k x xs e in rw n.0 (ap (λ t. x ∷ t) (without_none k xs n.1))

  -- a lookup after a change
  pub lookup_replaced : (xs : List X) (x y : X) → lookup f (f y) xs ≡ Some x → lookup f (f y) (replaced f y xs) ≡ Some y
  lookup_replaced [] x y e = absurd (none_some e)
  lookup_replaced (z ∷ xs) x y e =
      elim (cases_Bool (eqb (f z) (f y))) [
        | inl t ↦ rw t (rw (eq-eqb (f y) (f y) refl))
        | inr t ↦ rw (t, t) (lookup_replaced xs x y (rw t at e))
      ]

  pub lookup_replaced_position : (xs : List X) (y : X) (i : ℕ) → position f (f y) xs ≡ Some i →
      lookup f (f y) (replaced f y xs) ≡ Some y
  lookup_replaced_position xs y i e = lookup_replaced xs (get_or xs i y) y (lookup_position (f y) xs i y e)

  pub lookup_replaced_other : (k : ℕ) (xs : List X) (y : X) → eqb (f y) k ≡ false →
      lookup f k (replaced f y xs) ≡ lookup f k xs
  lookup_replaced_other k [] y ne = refl
  lookup_replaced_other k (x ∷ xs) y ne =
      elim (cases_Bool (eqb (f x) (f y))) [
        | inl t ↦ rw (t, ne, ap (λ n. eqb n k) (eqb-true (f x) (f y) t) ∙ ne)
        | inr t ↦ rw t (ap (cond (eqb (f x) k) (Some x)) (lookup_replaced_other k xs y ne))
      ]

  pub lookup_without_other : (j k : ℕ) (xs : List X) → eqb j k ≡ false → lookup f k (without f j xs) ≡ lookup f k xs
  lookup_without_other j k [] ne = refl
  lookup_without_other j k (x ∷ xs) ne =
      elim (cases_Bool (eqb (f x) j)) [
        | inl t ↦ rw (t, ap (λ n. eqb n k) (eqb-true (f x) j t) ∙ ne)
        | inr t ↦ rw t (ap (cond (eqb (f x) k) (Some x)) (lookup_without_other j k xs ne))
      ]

  pub lookup_push : (k : ℕ) (xs : List X) (y : X) → lookup f k xs ≡ None →
      lookup f k (xs ++ y ∷ []) ≡ cond (eqb (f y) k) (Some y) None
  lookup_push k [] y e = refl
  lookup_push k (x ∷ xs) y e =
      elim (cases_Bool (eqb (f x) k)) [
        | inl t ↦ absurd (none_some (sym (rw t at e)))
        | inr t ↦ rw t (lookup_push k xs y (rw t at e))
      ]

  pub lookup_push_other : (k : ℕ) (xs : List X) (y : X) → eqb (f y) k ≡ false →
      lookup f k (xs ++ y ∷ []) ≡ lookup f k xs
  lookup_push_other k [] y ne = rw ne
  lookup_push_other k (x ∷ xs) y ne = ap (cond (eqb (f x) k) (Some x)) (lookup_push_other k xs y ne)

-- through a map
module _ {X Y : Type 0} (g : X → Y) (f : Y → ℕ) where
  pub position_map : (k : ℕ) (xs : List X) → position (λ x. f (g x)) k xs ≡ position f k (map g xs)
  position_map k [] = refl
  position_map k (x ∷ xs) = ap (λ o. cond (eqb (f (g x)) k) (Some 0) (option_map suc o)) (position_map k xs)

  pub lookup_map : (k : ℕ) (xs : List X) → option_map g (lookup (λ x. f (g x)) k xs) ≡ lookup f k (map g xs)
  lookup_map k [] = refl
  lookup_map k (x ∷ xs) = elim (cases_Bool (eqb (f (g x)) k)) [ inl t ↦ rw t | inr t ↦ rw t (lookup_map k xs) ]

  pub replaced_map : (xs : List X) (y : X) → map g (replaced (λ x. f (g x)) y xs) ≡ replaced f (g y) (map g xs)
  replaced_map [] y = refl
  replaced_map (x ∷ xs) y =
      elim (cases_Bool (eqb (f (g x)) (f (g y)))) [
        | inl t ↦ rw t
        | inr t ↦ rw t (ap (λ t. g x ∷ t) (replaced_map xs y))
      ]

  pub without_map : (k : ℕ) (xs : List X) → map g (without (λ x. f (g x)) k xs) ≡ without f k (map g xs)
  without_map k [] = refl
  without_map k (x ∷ xs) =
      elim (cases_Bool (eqb (f (g x)) k)) [ inl t ↦ rw t | inr t ↦ rw t (ap (λ t. g x ∷ t) (without_map k xs)) ]

pub removed_map : {X Y : Type 0} (g : X → Y) (xs : List X) (i : ℕ) → map g (remove xs i) ≡ remove (map g xs) i
removed_map g xs i = map-append g (take i xs) (drop (suc i) xs) ∙ simp (take-map, drop-map)
