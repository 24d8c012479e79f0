-- Lists in which each element is changed, or tested, by a call.
use Rattle.std.proofs.Common.{◌≡◌, ℕ, ◌+◌, ◌<◌, ◌≤◌, Bool, true, false, cond, List, filter, [], ◌∷◌, ◌++◌, map, length, get_or, take, drop, set, subst, sym, refl, ap, ap₂, ◌∙◌, arith, append-nil}
use Rattle.std.specs.Borrow.{Bor, MutBor}
use Rattle.std.specs.Fn.{Shared, FnReturnsAt}
use Rattle.std.proofs.lemmas.List.{take_more, take_more_set, drop_more, drop-set-lt}
use Rattle.fifo.specs.Changes.{Changes, EachChanged, Retained}

-- lists that agree from i on
module _ {T : Type 0} (xs ys : List T) (i : ℕ) (x : T) (lt : i < length xs) (lt' : i < length ys) (d : drop i ys ≡ drop i xs) where
  agree : get_or xs i x ∷ drop (i + 1) xs ≡ get_or ys i x ∷ drop (i + 1) ys
  agree = sym (drop_more xs i x lt) ∙ sym d ∙ drop_more ys i x lt'

  same_at : get_or ys i x ≡ get_or xs i x
  same_at = sym (ap (λ l. get_or l 0 x) agree)

  behind : drop (i + 1) ys ≡ drop (i + 1) xs
  behind = sym (ap (drop 1) agree)

module _ {F T : Type 0} (g : Shared F (MutBor T × Unit {0}) (Unit {0} × (MutBor T × Unit {0}))) (f : F) where
  -- one more at the end
  at_end : (xs ys : List T) (x y : T) → EachChanged g f xs ys → Changes g f x y → EachChanged g f (xs ++ x ∷ []) (ys ++ y ∷ [])
  at_end [] [] x y e h = (h, tt)
  at_end [] (z ∷ ys) x y e h = absurd e
  at_end (z ∷ xs) [] x y e h = absurd e
  at_end (z ∷ xs) (w ∷ ys) x y e h = (e.0, at_end xs ys x y e.1 h)

  -- the first i are changed, the others as they were, and element i is changed
  pub one_more : (xs ys : List T) (i : ℕ) (x y : T) → i < length xs → i < length ys → EachChanged g f (take i xs) (take i ys) → drop i ys ≡ drop i xs →
      Changes g f (get_or ys i x) y → EachChanged g f (take (i + 1) xs) (take (i + 1) (set ys i y)) × (drop (i + 1) (set ys i y) ≡ drop (i + 1) xs)
  one_more xs ys i x y lt lt' e d h =
      let here = same_at xs ys i x lt lt' d in (
        rw (take_more xs i x lt, take_more_set ys i y lt') (at_end (take i xs) (take i ys) (get_or xs i x) y e (subst (λ z. Changes g f z y) here h)),
        drop-set-lt (i + 1) ys i y (omega arith) ∙ behind xs ys i x lt lt' d,
      )

  -- seen by v, each element was changed by w
  pub each_seen : {Y : Type 0} (v : T → Y) (w : Y → Y) → ((x y : T) → Changes g f x y → v y ≡ w (v x)) → (xs ys : List T) → EachChanged g f xs ys → map v ys ≡ map w (map v xs)
  each_seen v w h [] [] e = refl
  each_seen v w h [] (y ∷ ys) e = absurd e
  each_seen v w h (x ∷ xs) [] e = absurd e
  each_seen v w h (x ∷ xs) (y ∷ ys) e = ap₂ (λ a b. a ∷ b) (h x y e.0) (each_seen v w h xs ys e.1)

module _ {F T : Type 0} (g : Shared F (Bor T × Unit {0}) Bool) (f : F) where
  -- one more at the end
  at_last : (xs ys : List T) (x : T) (b : Bool) → Retained g f xs ys → FnReturnsAt g f x b → Retained g f (xs ++ x ∷ []) (ys ++ cond b (x ∷ []) [])
  at_last [] ys x b e h = (b, [], h, ap (λ l. l ++ cond b (x ∷ []) []) e, refl)
  at_last (z ∷ xs) ys x b e h = (e.0, e.1 ++ cond b (x ∷ []) [], e.2, ap (λ l. l ++ cond b (x ∷ []) []) e.3 ∙ by e.0, at_last xs e.1 x b e.4 h)
    where
      by : (c : Bool) → cond c (z ∷ e.1) e.1 ++ cond b (x ∷ []) [] ≡ cond c (z ∷ e.1 ++ cond b (x ∷ []) []) (e.1 ++ cond b (x ∷ []) [])
      by true = refl
      by false = refl

  pub one_tested : (xs ys : List T) (i : ℕ) (x : T) (b : Bool) → i < length xs → Retained g f (take i xs) ys → FnReturnsAt g f (get_or xs i x) b →
      Retained g f (take (i + 1) xs) (ys ++ cond b (get_or xs i x ∷ []) [])
  one_tested xs ys i x b lt e h = rw (take_more xs i x lt) (at_last (take i xs) ys (get_or xs i x) b e h)

  -- The first k of zs are those of the first i of xs that pass, and from i on zs is as xs. Then the element at i is tested:
  -- it passes
  pub one_kept : (xs zs : List T) (i k : ℕ) (x : T) → i < length xs → i < length zs → k ≤ i → Retained g f (take i xs) (take k zs) → drop i zs ≡ drop i xs →
      FnReturnsAt g f (get_or zs i x) true →
      Retained g f (take (i + 1) xs) (take (k + 1) (set zs k (get_or zs i x))) × (drop (i + 1) (set zs k (get_or zs i x)) ≡ drop (i + 1) xs)
  one_kept xs zs i k x lt lt' le e d h =
      let here = same_at xs zs i x lt lt' d in (
        rw (take_more_set zs k (get_or zs i x) (omega arith))
            (subst (λ z. Retained g f (take (i + 1) xs) (take k zs ++ z ∷ [])) (sym here) (one_tested xs (take k zs) i x true lt e (subst (λ z. FnReturnsAt g f z true) here h))),
        drop-set-lt (i + 1) zs k (get_or zs i x) (omega arith) ∙ behind xs zs i x lt lt' d,
      )

  -- it does not
  pub one_dropped : (xs zs : List T) (i k : ℕ) (x : T) → i < length xs → i < length zs → Retained g f (take i xs) (take k zs) → drop i zs ≡ drop i xs →
      FnReturnsAt g f (get_or zs i x) false → Retained g f (take (i + 1) xs) (take k zs) × (drop (i + 1) zs ≡ drop (i + 1) xs)
  one_dropped xs zs i k x lt lt' e d h =
      let here = same_at xs zs i x lt lt' d in (
        subst (λ l. Retained g f (take (i + 1) xs) l) (append-nil (take k zs)) (one_tested xs (take k zs) i x false lt e (subst (λ z. FnReturnsAt g f z false) here h)),
        behind xs zs i x lt lt' d,
      )

  pub no_longer : (xs ys : List T) → Retained g f xs ys → length ys ≤ length xs
  no_longer [] ys e = omega (arith, ap length e)
  no_longer (x ∷ xs) ys e = by e.0 e.3 (no_longer xs e.1 e.4)
    where
      by : (b : Bool) → ys ≡ cond b (x ∷ e.1) e.1 → length e.1 ≤ length xs → length ys ≤ length (x ∷ xs)
      by true q h = omega (arith, ap length q)
      by false q h = omega (arith, ap length q)

  -- those that pass the test p
  pub retained_is : (p : T → Bool) → ((x : T) (b : Bool) → FnReturnsAt g f x b → b ≡ p x) → (xs ys : List T) → Retained g f xs ys → ys ≡ filter p xs
  retained_is p h [] ys e = e
  retained_is p h (x ∷ xs) ys e = e.3 ∙ ap₂ (λ b l. cond b (x ∷ l) l) (h x e.0 e.2) (retained_is p h xs e.1 e.4)
