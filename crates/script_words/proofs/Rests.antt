-- What follows a prefix.
use Rattle.std.proofs.Common.{◌≡◌, ℕ, Bool, true, false, cond, eqb, List, [], ◌∷◌, ◌++◌, Some, None, Option, sym, refl, ap, ◌∙◌, arith, Bor, MatchOption}
use Rattle.std.proofs.lemmas.Bool.{eq-eqb, eqb-true}
use Rattle.script_words.specs.Texts.{plain_rest, rest_after}

pub rest_found : (p rest : List ℕ) → rest_after p (p ++ rest) ≡ Some rest
rest_found [] rest = refl
rest_found (x ∷ p) rest = ap (λ b. cond b (rest_after p (p ++ rest)) None) (eq-eqb x x refl) ∙ rest_found p rest

none_some : {X : Type 0} (x : X) → ◌≡◌ {A = Option X} None (Some x) → ⊥
none_some x e = let z : ◌≡◌ {A = ℕ} 0 1 = cc in omega arith

pub rest_is : (p s rest : List ℕ) → rest_after p s ≡ Some rest → s ≡ p ++ rest
rest_is [] s rest e = let z : s ≡ rest = cc in z
rest_is (x ∷ p) [] rest e = absurd (none_some rest e)
rest_is (x ∷ p) (y ∷ s) rest e = at (eqb x y) refl (rest_is p s rest) e where
  at : (b : Bool) → eqb x y ≡ b → (rest_after p s ≡ Some rest → s ≡ p ++ rest) → cond b (rest_after p s) None ≡ Some rest → y ∷ s ≡ x ∷ (p ++ rest)
  at true q ih h = let a : x ≡ y = eqb-true x y q in let b : s ≡ p ++ rest = ih h in cc
  at false q ih h = absurd (none_some rest h)

-- a prefix that nothing follows
missing : (p s : List ℕ) → ((rest : List ℕ) → s ≡ p ++ rest → ⊥) → (o : Option (List ℕ)) → rest_after p s ≡ o → None ≡ o
missing p s h None e = refl
missing p s h (Some rest) e = absurd (h rest (rest_is p s rest e))

pub stripped : (p s : List ℕ) (r : Option (Bor (List ℕ))) → MatchOption r ((rest : List ℕ) → s ≡ p ++ rest → ⊥) (λ x. s ≡ p ++ x.now) → plain_rest r ≡ rest_after p s
stripped p s None h = missing p s h (rest_after p s) refl
stripped p s (Some x) h = sym (ap (rest_after p) h ∙ rest_found p x.now)
