-- Facts on the places of a list that its methods' proofs share.
use Rattle.std.proofs.Common.{tests, lt-ltb, ◌≡◌, ℕ, zero, suc, ◌+◌, ◌-◌, ◌<◌, ◌≤◌, List, [], ◌∷◌, ◌++◌, length, get_or, take, drop, Bool, true, false, not, cond, eqb, ltb, Some, None, sym, refl, ap, ◌∙◌, ap₂, add-one, arith, length-drop}
use lib.Seq.{paste}
use Rattle.std.specs.List.{remove}
use Rattle.std.specs.List as by_test
use Rattle.std.specs.Option.{option_map}
use Rattle.std.proofs.lemmas.List.{take-take, length-take-le}
use Rattle.std.proofs.lemmas.Slice.{between_is}
use Rattle.std.proofs.lemmas.List.Edits.{take-paste}
use Rattle.fifo.specs.Lists.{position}
use Rattle.fifo.proofs.Keys.{at_none}
use Rattle.std.proofs.lemmas.Bool.{eq-eqb, ne_eqb}

-- what stands behind `at`, copied to `at`, leaves the first n of the places without the one at `at`
pub removed_is : {X : Type 0} (xs : List X) (n at : ℕ) → at < n → n ≤ length xs →
    take (n - 1) (paste xs at (drop (at + 1) xs) (n - (at + 1))) ≡ remove (take n xs) at
removed_is xs n at lt le =
    let e : n - 1 ≡ at + (n - (at + 1)) = omega arith in
    let k : n - (at + 1) ≤ length (drop (at + 1) xs) = simp length-drop (omega arith) in
    ap (λ i. take i (paste xs at (drop (at + 1) xs) (n - (at + 1)))) e
    ∙ take-paste xs at (drop (at + 1) xs) (n - (at + 1)) (omega arith) k
    ∙ ap₂ (λ a b. a ++ b) (sym (take-take at n xs (omega arith)))
    (between_is xs (at + 1) n ∙ ap (λ i. drop i (take n xs)) (add-one at))

-- the n before `len`, copied to the front, are what stays of the places in use
pub kept_is : {X : Type 0} (xs : List X) (len n : ℕ) → n ≤ len → len ≤ length xs →
    take n (paste xs 0 (drop (len - n) xs) (len - (len - n))) ≡ drop (length (take len xs) - n) (take len xs)
kept_is xs len n le fits =
    let e : n ≡ 0 + (len - (len - n)) = omega arith in
    let k : len - (len - n) ≤ length (drop (len - n) xs) = simp length-drop (omega arith) in
    ap (λ i. take i (paste xs 0 (drop (len - n) xs) (len - (len - n)))) e
    ∙ take-paste xs 0 (drop (len - n) xs) (len - (len - n)) (omega arith) k
    ∙ between_is xs (len - n) len
    ∙ ap (λ m. drop (m - n) (take len xs)) (sym (length-take-le len xs fits))

lifted : (n m : ℕ) → ltb (1 + n) (suc m) ≡ ltb n m
lifted n m = grind (arith, tests)

least : (m : ℕ) → ltb 0 (suc m) ≡ true
least m = lt-ltb 0 (suc m) (omega arith)

-- the library's words for what a key finds
module _ {X : Type 0} (f : X → ℕ) (k : ℕ) where
  pub position_is : (xs : List X) → by_test.position (λ x. eqb (f x) k) xs ≡ position f k xs
  position_is [] = refl
  position_is (x ∷ xs) = by (eqb (f x) k) (by_test.position_or_len (λ x. eqb (f x) k) xs) (position_is xs)
    where
      further : (c : Bool) (n : ℕ) → cond c (Some (1 + n)) None ≡ option_map suc (cond c (Some n) None)
      further true n = ap Some (omega arith)
      further false n = refl

      by : (b : Bool) (n : ℕ) → cond (ltb n (length xs)) (Some n) None ≡ position f k xs →
          cond (ltb (cond (not b) (1 + n) 0) (suc (length xs))) (Some (cond (not b) (1 + n) 0)) None ≡ cond b (Some 0) (option_map suc (position f k xs))
      by true n e = rw (least (length xs)) refl
      by false n e = rw (lifted n (length xs)) (further (ltb n (length xs)) n ∙ ap (option_map suc) e)

-- a search that found nothing before i, and x, which stands at i
module _ {X : Type 0} (f : X → ℕ) (k : ℕ) where
  pub found : (xs : List X) (n i : ℕ) (x : X) → i < n → i < length xs → x ≡ get_or xs i x → f x ≡ k →
      position f k (take i xs) ≡ None → Some i ≡ position f k (take n xs)
  found [] n i x lt l e hit none = absurd (omega arith)
  found (y ∷ xs) zero i x lt l e hit none = absurd (omega arith)
  found (y ∷ xs) (suc n) zero x lt l e hit none = rw (eq-eqb (f y) k (ap f (sym e) ∙ hit))
  found (y ∷ xs) (suc n) (suc i) x lt l e hit none =
      let m = at_none f k y (take i xs) none in
      rw m.0 (ap (option_map suc) (found xs n i x (omega arith) (omega arith) e hit m.1))

  pub passed : (xs : List X) (i : ℕ) (x : X) → i < length xs → x ≡ get_or xs i x → (f x ≡ k → ⊥) →
      position f k (take i xs) ≡ None → position f k (take (i + 1) xs) ≡ None
  passed xs i x l e miss none = ap (λ n. position f k (take n xs)) (add-one i) ∙ next xs i l e none
    where
      next : (xs : List X) (i : ℕ) → i < length xs → x ≡ get_or xs i x →
          position f k (take i xs) ≡ None → position f k (take (suc i) xs) ≡ None
      next [] i l e none = refl
      next (y ∷ xs) zero l e none = rw (ne_eqb (f y) k (λ h. miss (ap f e ∙ h)))
      next (y ∷ xs) (suc i) l e none =
          let m = at_none f k y (take i xs) none in rw m.0 (ap (option_map suc) (next xs i (omega arith) e m.1))
