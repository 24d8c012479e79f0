-- Tables of rows: what a row put into one is found as, and what all rows pass.
use Rattle.std.specs.Prelude.{◌≡◌, ℕ, suc, ◌<◌, ◌≤◌, Bool, true, false, cond, List, [], ◌∷◌, ◌++◌, length, is_some, Some, None, Option, ◌==◌, nat_lt, refl}
use Rattle.std.proofs.Common.{set, sym, ap, ◌∙◌, arith, le-ltb}
use Rattle.std.specs.Option.{option_map}
use Rattle.std.proofs.lemmas.Bool.Decides.{nat_tests}
use Rattle.fifo.specs.Lists.{position, lookup, replaced}
use Rattle.fifo.proofs.Keys.{set_position, lookup_none}
use Rattle.sources.specs.Table.{has_room, put, every}

module _ {X : Type 0} (f : X → ℕ) where
  -- a row put in is found under its node, and every other node's row as before
  pub lookup_put : (k : ℕ) (y : X) (xs : List X) → lookup f k (put f y xs) ≡ cond (f y == k) (Some y) (lookup f k xs)
  lookup_put k y [] = refl
  lookup_put k y (x ∷ xs) = at (lookup_put k y xs)
    where
      at : lookup f k (put f y xs) ≡ cond (f y == k) (Some y) (lookup f k xs) → lookup f k (cond (f x == f y) (y ∷ xs) (x ∷ put f y xs)) ≡ cond (f y == k) (Some y) (cond (f x == k) (Some x) (lookup f k xs))
      at ih = grind (arith, nat_tests)

  -- a row put in takes the place of its node's row, or comes last
  put_is : (y : X) (xs : List X) → put f y xs ≡ cond (is_some (position f (f y) xs)) (replaced f y xs) (xs ++ y ∷ [])
  put_is y [] = refl
  put_is y (x ∷ xs) = at (f x == f y) (position f (f y) xs) (put_is y xs)
    where
      at : (b : Bool) (o : Option ℕ) → put f y xs ≡ cond (is_some o) (replaced f y xs) (xs ++ y ∷ []) →
          cond b (y ∷ xs) (x ∷ put f y xs) ≡ cond (is_some (cond b (Some 0) (option_map suc o))) (cond b (y ∷ xs) (x ∷ replaced f y xs)) (x ∷ (xs ++ y ∷ []))
      at true o h = refl
      at false None h = ap (λ l. x ∷ l) h
      at false (Some j) h = ap (λ l. x ∷ l) h

  -- a row put in where its node has one takes that row's place
  pub put_found : (y : X) (xs : List X) (i : ℕ) → position f (f y) xs ≡ Some i → put f y xs ≡ replaced f y xs
  put_found y xs i e = put_is y xs ∙ rw e refl

  pub put_at : (k i : ℕ) (y : X) (xs : List X) → k ≡ f y → position f k xs ≡ Some i → set xs i y ≡ put f y xs
  put_at k i y xs h e = set_position f k xs i y (sym h) e ∙ sym (put_is y xs ∙ rw (sym h, e) refl)

  pub put_new : (k : ℕ) (y : X) (xs : List X) → k ≡ f y → position f k xs ≡ None → put f y xs ≡ xs ++ y ∷ []
  put_new k y xs h e = put_is y xs ∙ rw (sym h, e) refl

  -- a row that passes keeps it so that all rows pass
  pub every_put : (p : X → Bool) (y : X) (xs : List X) → every p xs ≡ true → p y ≡ true → every p (put f y xs) ≡ true
  every_put p y [] e h = rw h refl
  every_put p y (x ∷ xs) e h = at (f x == f y) (p x) refl e (every_put p y xs)
    where
      at : (b c : Bool) → p x ≡ c → cond c (every p xs) false ≡ true → (every p xs ≡ true → p y ≡ true → every p (put f y xs) ≡ true) → every p (cond b (y ∷ xs) (x ∷ put f y xs)) ≡ true
      at true true q g ih = rw h g
      at false true q g ih = rw q (ih g h)
      at b false q g ih = absurd (let z : ◌≡◌ {A = ℕ} 0 1 = ap (λ t. cond t 1 0) g in omega arith)

  pub every_lookup : (p : X → Bool) (k : ℕ) (x : X) (xs : List X) → every p xs ≡ true → lookup f k xs ≡ Some x → p x ≡ true
  every_lookup p k x [] e h = absurd (let z : ◌≡◌ {A = ℕ} 0 1 = cc in omega arith)
  every_lookup p k x (y ∷ xs) e h = at (f y == k) (p y) refl e h (every_lookup p k x xs)
    where
      at : (b c : Bool) → p y ≡ c → cond c (every p xs) false ≡ true → cond b (Some y) (lookup f k xs) ≡ Some x → (every p xs ≡ true → lookup f k xs ≡ Some x → p x ≡ true) → p x ≡ true
      at true true q g l ih = let z : y ≡ x = cc in ap p (sym z) ∙ q
      at false true q g l ih = ih g l
      at b false q g l ih = absurd (let z : ◌≡◌ {A = ℕ} 0 1 = ap (λ t. cond t 1 0) g in omega arith)

  some_position : (k : ℕ) (xs : List X) → is_some (position f k xs) ≡ is_some (lookup f k xs)
  some_position k [] = refl
  some_position k (x ∷ xs) = at (f x == k) (position f k xs) (some_position k xs)
    where
      at : (b : Bool) (o : Option ℕ) → is_some o ≡ is_some (lookup f k xs) → is_some (cond b (Some 0) (option_map suc o)) ≡ is_some (cond b (Some x) (lookup f k xs))
      at true o ih = refl
      at false None ih = ih
      at false (Some j) ih = ih

  -- a full table has room for the nodes it has
  pub room_full : (k : ℕ) (xs : List X) → 64 ≤ length xs → is_some (position f k xs) ≡ has_room f k xs
  room_full k xs h = let e : nat_lt (length xs) 64 ≡ false = le-ltb (length xs) 64 h in some_position k xs ∙ sym (ap (λ b. cond b true (is_some (lookup f k xs))) e)

  -- where a node has no row, room is room for one more
  pub room_new : (j k : ℕ) (xs : List X) → j ≡ k → has_room f k xs ≡ true → position f j xs ≡ None → length xs < 64
  room_new j k xs q h e = let n : lookup f k xs ≡ None = ap (λ i. lookup f i xs) (sym q) ∙ lookup_none f j xs e in let r = rw n at h in grind (arith, nat_tests, r)
