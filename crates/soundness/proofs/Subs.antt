-- Lists of records by their keys.
use Rattle.std.proofs.Common.{◌≡◌, ℕ, suc, ◌<◌, ◌≤◌, Bool, true, false, cond, eqb, ltb, List, [], ◌∷◌, ◌++◌, map, length, Some, None, sym, refl, ap, ◌∙◌, subst, inl, inr, arith}
use Rattle.std.specs.List.{AllByRecursion}
use Rattle.std.proofs.lemmas.List.{length-map}
use Rattle.std.proofs.lemmas.Bool.{eqb-true, eqb-false, ltb-true, lt-ltb}
use Rattle.fifo.specs.Lists.{none, lookup, replaced, without}
use Rattle.item_table.specs.Rising.{rising_by}
use Rattle.item_table.proofs.Orders.{both, join}
use Rattle.model.specs.Sound.{In, Distinct}
use Rattle.soundness.proofs.Members.{none_some}

-- two facts on each element give a third
pub all_both : {X : Type 0} (P Q R : X → Type 0) → ((x : X) → P x → Q x → R x) → (xs : List X) → AllByRecursion P xs → AllByRecursion Q xs → AllByRecursion R xs
all_both P Q R g [] a b = tt
all_both P Q R g (x ∷ xs) a b = (g x a.0 b.0, all_both P Q R g xs a.1 b.1)

pub all_in : {X : Type 0} (P : X → Type 0) (x : X) (xs : List X) → AllByRecursion P xs → In x xs → P x
all_in P x [] a h = absurd h
all_in P x (y ∷ xs) a (inl e) = subst P e a.0
all_in P x (y ∷ xs) a (inr h) = all_in P x xs a.1 h

module _ {X : Type 0} (key : X → ℕ) where
  pub lookup_key : (k : ℕ) (xs : List X) (x : X) → lookup key k xs ≡ Some x → key x ≡ k
  lookup_key k [] x e = absurd (none_some e)
  lookup_key k (y ∷ xs) x e = at (eqb (key y) k) refl e (lookup_key k xs x)
    where
      at : (b : Bool) → eqb (key y) k ≡ b → cond b (Some y) (lookup key k xs) ≡ Some x → (lookup key k xs ≡ Some x → key x ≡ k) → key x ≡ k
      at true t e ih = let q : y ≡ x = cc in ap key (sym q) ∙ eqb-true (key y) k t
      at false t e ih = ih e

  pub lookup_in : (k : ℕ) (xs : List X) (x : X) → lookup key k xs ≡ Some x → In x xs
  lookup_in k [] x e = absurd (none_some e)
  lookup_in k (y ∷ xs) x e = at (eqb (key y) k) e (lookup_in k xs x)
    where
      at : (b : Bool) → cond b (Some y) (lookup key k xs) ≡ Some x → (lookup key k xs ≡ Some x → In x xs) → In x (y ∷ xs)
      at true e ih = let q : y ≡ x = cc in inl q
      at false e ih = inr (ih e)

  pub lookup_all : (P : X → Type 0) (k : ℕ) (xs : List X) (x : X) → AllByRecursion P xs → lookup key k xs ≡ Some x → P x
  lookup_all P k xs x a e = all_in P x xs a (lookup_in k xs x e)

  -- a key in the list is found
  pub in_lookup : (k : ℕ) (xs : List X) → In k (map key xs) → lookup key k xs ≡ None → ⊥
  in_lookup k [] h e = h
  in_lookup k (x ∷ xs) h e = at (eqb (key x) k) refl h e (in_lookup k xs)
    where
      at : (b : Bool) → eqb (key x) k ≡ b → In k (map key (x ∷ xs)) → cond b (Some x) (lookup key k xs) ≡ None → (In k (map key xs) → lookup key k xs ≡ None → ⊥) → ⊥
      at true t h e ih = none_some (sym e)
      at false t (inl p) e ih = eqb-false (key x) k t p
      at false t (inr h) e ih = ih h e

  pub keys_replaced : (y : X) (xs : List X) → map key (replaced key y xs) ≡ map key xs
  keys_replaced y [] = refl
  keys_replaced y (x ∷ xs) = at (eqb (key x) (key y)) refl (keys_replaced y xs)
    where
      at : (b : Bool) → eqb (key x) (key y) ≡ b → map key (replaced key y xs) ≡ map key xs → map key (cond b (y ∷ xs) (x ∷ replaced key y xs)) ≡ map key (x ∷ xs)
      at true t ih = ap (λ n. n ∷ map key xs) (sym (eqb-true (key x) (key y) t))
      at false t ih = ap (λ l. key x ∷ l) ih

  pub keys_without : (k : ℕ) (xs : List X) → map key (without key k xs) ≡ without (λ n. n) k (map key xs)
  keys_without k [] = refl
  keys_without k (x ∷ xs) = at (eqb (key x) k) (keys_without k xs)
    where
      at : (b : Bool) → map key (without key k xs) ≡ without (λ n. n) k (map key xs) → map key (cond b xs (x ∷ without key k xs)) ≡ cond b (map key xs) (key x ∷ without (λ n. n) k (map key xs))
      at true ih = refl
      at false ih = ap (λ l. key x ∷ l) ih

  pub all_replaced : (P : X → Type 0) (y : X) (xs : List X) → AllByRecursion P xs → P y → AllByRecursion P (replaced key y xs)
  all_replaced P y [] a h = a
  all_replaced P y (x ∷ xs) a h = at (eqb (key x) (key y)) (all_replaced P y xs a.1 h)
    where
      at : (b : Bool) → AllByRecursion P (replaced key y xs) → AllByRecursion P (cond b (y ∷ xs) (x ∷ replaced key y xs))
      at true ih = (h, a.1)
      at false ih = (a.0, ih)

  pub all_without : (P : X → Type 0) (k : ℕ) (xs : List X) → AllByRecursion P xs → AllByRecursion P (without key k xs)
  all_without P k [] a = a
  all_without P k (x ∷ xs) a = at (eqb (key x) k) (all_without P k xs a.1)
    where
      at : (b : Bool) → AllByRecursion P (without key k xs) → AllByRecursion P (cond b xs (x ∷ without key k xs))
      at true ih = a.1
      at false ih = (a.0, ih)

  pub length_replaced : (y : X) (xs : List X) → length (replaced key y xs) ≡ length xs
  length_replaced y xs = sym (length-map (replaced key y xs) key) ∙ ap length (keys_replaced y xs) ∙ length-map xs key

  pub length_without : (k : ℕ) (xs : List X) → length (without key k xs) ≤ length xs
  length_without k [] = omega arith
  length_without k (x ∷ xs) = at (eqb (key x) k) (length_without k xs)
    where
      at : (b : Bool) → length (without key k xs) ≤ length xs → length (cond b xs (x ∷ without key k xs)) ≤ suc (length xs)
      at true h = omega arith
      at false h = omega arith

  pub same_length : (xs ys : List X) → map key xs ≡ map key ys → length xs ≡ length ys
  same_length xs ys e = sym (length-map xs key) ∙ ap length e ∙ length-map ys key

  pub none_keys : (xs ys : List X) → map key xs ≡ map key ys → none xs ≡ none ys
  none_keys [] [] e = refl
  none_keys [] (y ∷ ys) e = let n = ap length e in absurd (omega arith)
  none_keys (x ∷ xs) [] e = let n = ap length e in absurd (omega arith)
  none_keys (x ∷ xs) (y ∷ ys) e = refl

  -- a fact on the keys
  pub all_keys : (P : ℕ → Type 0) (xs : List X) → AllByRecursion P (map key xs) → AllByRecursion (λ x. P (key x)) xs
  all_keys P [] a = a
  all_keys P (x ∷ xs) a = (a.0, all_keys P xs a.1)

  -- the key of none of them
  pub others_without : (k : ℕ) (xs : List X) → Distinct (map key xs) → AllByRecursion (λ x. key x ≡ k → ⊥) (without key k xs)
  others_without k [] d = tt
  others_without k (x ∷ xs) d = at (eqb (key x) k) refl (others_without k xs d.1)
    where
      out : (j : ℕ) (ys : List X) → (In j (map key ys) → ⊥) → AllByRecursion (λ y. key y ≡ j → ⊥) ys
      out j [] o = tt
      out j (y ∷ ys) o = ((λ e. o (inl e)), out j ys (λ h. o (inr h)))

      at : (b : Bool) → eqb (key x) k ≡ b → AllByRecursion (λ x. key x ≡ k → ⊥) (without key k xs) → AllByRecursion (λ x. key x ≡ k → ⊥) (cond b xs (x ∷ without key k xs))
      at true t ih = out k xs (λ h. d.0 (subst (λ n. In n (map key xs)) (sym (eqb-true (key x) k t)) h))
      at false t ih = ((λ e. eqb-false (key x) k t e), ih)

  -- one is replaced, and of the others, which have other keys, another fact holds
  pub others_replaced : (P Q : X → Type 0) (y : X) (xs : List X) → Distinct (map key xs) → ((x : X) → P x → (key x ≡ key y → ⊥) → Q x) → AllByRecursion P xs → Q y → AllByRecursion Q (replaced key y xs)
  others_replaced P Q y [] d g a h = tt
  others_replaced P Q y (x ∷ xs) d g a h = at (eqb (key x) (key y)) refl (others_replaced P Q y xs d.1 g a.1 h)
    where
      rest : (ys : List X) → (In (key x) (map key ys) → ⊥) → key x ≡ key y → AllByRecursion P ys → AllByRecursion Q ys
      rest [] o t b = tt
      rest (z ∷ ys) o t b = (g z b.0 (λ e. o (inl (e ∙ sym t))), rest ys (λ i. o (inr i)) t b.1)

      at : (b : Bool) → eqb (key x) (key y) ≡ b → AllByRecursion Q (replaced key y xs) → AllByRecursion Q (cond b (y ∷ xs) (x ∷ replaced key y xs))
      at true t ih = (h, rest xs d.0 (eqb-true (key x) (key y) t) a.1)
      at false t ih = (g x a.0 (eqb-false (key x) (key y) t), ih)

  -- by rising key
  pub rising_above : (b : ℕ) (xs : List X) → rising_by key b xs ≡ true → AllByRecursion (λ x. b < key x) xs
  rising_above b [] h = tt
  rising_above b (x ∷ xs) h = let p = both (ltb b (key x)) (rising_by key (key x) xs) h in (ltb-true b (key x) p.0, lower xs (ltb-true b (key x) p.0) (rising_above (key x) xs p.1))
    where
      lower : (ys : List X) → b < key x → AllByRecursion (λ y. key x < key y) ys → AllByRecursion (λ y. b < key y) ys
      lower [] l a = tt
      lower (y ∷ ys) l a = (let q = a.0 in omega arith, lower ys l a.1)

  pub above_out : (b : ℕ) (xs : List X) → AllByRecursion (λ x. b < key x) xs → In b (map key xs) → ⊥
  above_out b [] a h = h
  above_out b (x ∷ xs) a (inl e) = let q = a.0 in omega arith
  above_out b (x ∷ xs) a (inr h) = above_out b xs a.1 h

  pub below_out : (b : ℕ) (xs : List X) → AllByRecursion (λ x. key x < b) xs → In b (map key xs) → ⊥
  below_out b [] a h = h
  below_out b (x ∷ xs) a (inl e) = let q = a.0 in omega arith
  below_out b (x ∷ xs) a (inr h) = below_out b xs a.1 h

  pub rising_distinct : (b : ℕ) (xs : List X) → rising_by key b xs ≡ true → Distinct (map key xs)
  rising_distinct b [] h = tt
  rising_distinct b (x ∷ xs) h = let p = both (ltb b (key x)) (rising_by key (key x) xs) h in (above_out (key x) xs (rising_above (key x) xs p.1), rising_distinct (key x) xs p.1)

  pub rising_last : (b : ℕ) (y : X) (xs : List X) → rising_by key b xs ≡ true → b < key y → AllByRecursion (λ x. key x < key y) xs → rising_by key b (xs ++ y ∷ []) ≡ true
  rising_last b y [] h l a = join (ltb b (key y)) true (lt-ltb b (key y) l) refl
  rising_last b y (x ∷ xs) h l a =
      let p = both (ltb b (key x)) (rising_by key (key x) xs) h in
      join (ltb b (key x)) _ p.0 (rising_last (key x) y xs p.1 a.0 a.1)

  -- whether the keys rise is a matter of the keys alone
  pub rising_keys : (b : ℕ) (xs : List X) → rising_by key b xs ≡ rising_by (λ n. n) b (map key xs)
  rising_keys b [] = refl
  rising_keys b (x ∷ xs) = ap (λ r. cond (ltb b (key x)) r false) (rising_keys (key x) xs)
