-- Lists of numbers: what stands in them, and lists without repetition.
use Rattle.std.proofs.Common.{◌≡◌, ℕ, suc, ◌≤◌, Bool, true, false, cond, eqb, ◌⊎◌, List, [], ◌∷◌, ◌++◌, map, length, Some, None, sym, refl, ap, ◌∙◌, subst, inl, inr, arith}
use Rattle.std.proofs.lemmas.Bool.{eqb-true, eqb-false}
use Rattle.fifo.specs.Lists.{none, first, rest, without}
use Rattle.model.specs.Sound.{In, Distinct, Within}

pub none_some : {X : Type 0} {x : X} → None ≡ Some x → ⊥
none_some e = let z : ◌≡◌ {A = ℕ} 0 1 = cc in omega arith

pub in_left : {X : Type 0} (x : X) (xs ys : List X) → In x xs → In x (xs ++ ys)
in_left x [] ys h = absurd h
in_left x (y ∷ xs) ys (inl e) = inl e
in_left x (y ∷ xs) ys (inr h) = inr (in_left x xs ys h)

pub in_right : {X : Type 0} (x : X) (xs ys : List X) → In x ys → In x (xs ++ ys)
in_right x [] ys h = h
in_right x (y ∷ xs) ys h = inr (in_right x xs ys h)

pub in_cases : {X : Type 0} (x : X) (xs ys : List X) → In x (xs ++ ys) → In x xs ⊎ In x ys
in_cases x [] ys h = inr h
in_cases x (y ∷ xs) ys (inl e) = inl (inl e)
in_cases x (y ∷ xs) ys (inr h) = elim (in_cases x xs ys h) [ inl a ↦ inl (inr a) | inr b ↦ inr b ]

-- in a list with one more at its end
pub in_push : {X : Type 0} (x y : X) (xs : List X) → In x (xs ++ y ∷ []) → In x xs ⊎ (y ≡ x)
in_push x y xs h = elim (in_cases x xs (y ∷ []) h) [ inl a ↦ inl a | inr b ↦ elim b [ inl e ↦ inr e | inr z ↦ absurd z ] ]

pub in_last : {X : Type 0} (x : X) (xs : List X) → In x (xs ++ x ∷ [])
in_last x xs = in_right x xs (x ∷ []) (inl refl)

pub in_map : {X Y : Type 0} (g : X → Y) (x : X) (xs : List X) → In x xs → In (g x) (map g xs)
in_map g x [] h = h
in_map g x (y ∷ xs) (inl e) = inl (ap g e)
in_map g x (y ∷ xs) (inr h) = inr (in_map g x xs h)

pub in_rest : {X : Type 0} (x : X) (xs : List X) → In x (rest xs) → In x xs
in_rest x [] h = h
in_rest x (y ∷ xs) h = inr h

pub distinct_rest : (xs : List ℕ) → Distinct xs → Distinct (rest xs)
distinct_rest [] d = d
distinct_rest (x ∷ xs) d = d.1

-- the first is not in the rest
pub first_out : (k : ℕ) (xs : List ℕ) → Distinct xs → first xs ≡ Some k → In k (rest xs) → ⊥
first_out k [] d e h = h
first_out k (x ∷ xs) d e h = let q : x ≡ k = cc in d.0 (subst (λ n. In n xs) (sym q) h)

pub first_in : (k : ℕ) (xs : List ℕ) → first xs ≡ Some k → In k xs
first_in k [] e = absurd (none_some e)
first_in k (x ∷ xs) e = let q : x ≡ k = cc in inl q

pub in_first : (j k : ℕ) (xs : List ℕ) → first xs ≡ Some k → In j xs → (k ≡ j) ⊎ In j (rest xs)
in_first j k [] e h = absurd h
in_first j k (x ∷ xs) e (inl p) = let q : x ≡ k = cc in inl (sym q ∙ p)
in_first j k (x ∷ xs) e (inr h) = inr h

pub first_none : {X : Type 0} (xs : List X) → first xs ≡ None → xs ≡ []
first_none [] e = refl
first_none (x ∷ xs) e = absurd (none_some (sym e))

pub first_rest : {X : Type 0} (xs : List X) (x : X) → first xs ≡ Some x → x ∷ rest xs ≡ xs
first_rest [] x e = absurd (none_some e)
first_rest (y ∷ xs) x e = let q : y ≡ x = cc in ap (λ z. z ∷ xs) (sym q)

pub none_empty : {X : Type 0} (xs : List X) → none xs ≡ true → xs ≡ []
none_empty [] e = refl
none_empty (x ∷ xs) e = absurd (let z : ◌≡◌ {A = ℕ} 0 1 = ap (λ b. cond b 1 0) e in omega arith)

pub none_push : {X : Type 0} (xs : List X) (x : X) → none (xs ++ x ∷ []) ≡ false
none_push [] x = refl
none_push (y ∷ xs) x = refl

pub length_rest : {X : Type 0} (xs : List X) → length (rest xs) ≤ length xs
length_rest [] = omega arith
length_rest (x ∷ xs) = omega arith

-- the end of an empty list
pub tail_empty : {X : Type 0} (xs ys : List X) → xs ++ ys ≡ [] → ys ≡ []
tail_empty [] ys e = e
tail_empty (x ∷ xs) ys e = let n = ap length e in absurd (omega arith)

pub distinct_push : (xs : List ℕ) (k : ℕ) → Distinct xs → (In k xs → ⊥) → Distinct (xs ++ k ∷ [])
distinct_push [] k d o = ((λ h. h), tt)
distinct_push (x ∷ xs) k d o =
    ((λ h. elim (in_push x k xs h) [ inl a ↦ d.0 a | inr e ↦ o (inl (sym e)) ]), distinct_push xs k d.1 (λ h. o (inr h)))

abbrev pub drops : ℕ → List ℕ → List ℕ
drops k xs = without (λ n. n) k xs

pub without_in : (j k : ℕ) (xs : List ℕ) → In j (drops k xs) → In j xs
without_in j k [] h = h
without_in j k (x ∷ xs) h = at (eqb x k) h (without_in j k xs)
  where
    at : (b : Bool) → In j (cond b xs (x ∷ drops k xs)) → (In j (drops k xs) → In j xs) → In j (x ∷ xs)
    at true h ih = inr h
    at false (inl e) ih = inl e
    at false (inr h) ih = inr (ih h)

pub in_without : (j k : ℕ) (xs : List ℕ) → (j ≡ k → ⊥) → In j xs → In j (drops k xs)
in_without j k [] ne h = h
in_without j k (x ∷ xs) ne h = at (eqb x k) refl h (in_without j k xs ne)
  where
    at : (b : Bool) → eqb x k ≡ b → In j (x ∷ xs) → (In j xs → In j (drops k xs)) → In j (cond b xs (x ∷ drops k xs))
    at true e (inl p) ih = absurd (ne (sym p ∙ eqb-true x k e))
    at true e (inr h) ih = h
    at false e (inl p) ih = inl p
    at false e (inr h) ih = inr (ih h)

pub distinct_without : (k : ℕ) (xs : List ℕ) → Distinct xs → Distinct (drops k xs)
distinct_without k [] d = d
distinct_without k (x ∷ xs) d = at (eqb x k) (distinct_without k xs d.1)
  where
    at : (b : Bool) → Distinct (drops k xs) → Distinct (cond b xs (x ∷ drops k xs))
    at true ih = d.1
    at false ih = ((λ h. d.0 (without_in x k xs h)), ih)

pub out_without : (k : ℕ) (xs : List ℕ) → Distinct xs → In k (drops k xs) → ⊥
out_without k [] d h = h
out_without k (x ∷ xs) d h = at (eqb x k) refl h (out_without k xs d.1)
  where
    at : (b : Bool) → eqb x k ≡ b → In k (cond b xs (x ∷ drops k xs)) → (In k (drops k xs) → ⊥) → ⊥
    at true e h ih = d.0 (subst (λ n. In n xs) (sym (eqb-true x k e)) h)
    at false e (inl p) ih = eqb-false x k e p
    at false e (inr h) ih = ih h

pub length_drops : (k : ℕ) (xs : List ℕ) → In k xs → suc (length (drops k xs)) ≡ length xs
length_drops k [] h = absurd h
length_drops k (x ∷ xs) h = at (eqb x k) refl h (length_drops k xs)
  where
    at : (b : Bool) → eqb x k ≡ b → In k (x ∷ xs) → (In k xs → suc (length (drops k xs)) ≡ length xs) → suc (length (cond b xs (x ∷ drops k xs))) ≡ suc (length xs)
    at true e h ih = refl
    at false e (inl p) ih = absurd (eqb-false x k e p)
    at false e (inr h) ih = ap suc (ih h)

-- a list without repetition is no longer than one that holds all of it
pub pigeonhole : (xs ys : List ℕ) → Distinct xs → Within xs ys → length xs ≤ length ys
pigeonhole [] ys d w = omega arith
pigeonhole (x ∷ xs) ys d w =
    let h = pigeonhole xs (drops x ys) d.1 (λ k i. in_without k x ys (λ e. d.0 (subst (λ n. In n xs) e i)) (w k (inr i))) in
    let n = length_drops x ys (w x (inl refl)) in
    omega arith

-- a number that stands only between two parts
pub drops_between : (k : ℕ) (xs ys : List ℕ) → (In k xs → ⊥) → drops k (xs ++ k ∷ ys) ≡ xs ++ ys
drops_between k [] ys o = at (eqb k k) refl
  where
    at : (b : Bool) → eqb k k ≡ b → cond b ys (k ∷ drops k ys) ≡ ys
    at true e = refl
    at false e = absurd (eqb-false k k e refl)
drops_between k (x ∷ xs) ys o = at (eqb x k) refl (drops_between k xs ys (λ h. o (inr h)))
  where
    at : (b : Bool) → eqb x k ≡ b → drops k (xs ++ k ∷ ys) ≡ xs ++ ys → cond b (xs ++ k ∷ ys) (x ∷ drops k (xs ++ k ∷ ys)) ≡ x ∷ xs ++ ys
    at true e ih = absurd (o (inl (eqb-true x k e)))
    at false e ih = ap (λ l. x ∷ l) ih
