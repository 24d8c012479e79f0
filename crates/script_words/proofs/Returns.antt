-- A carriage return at the end of a line.
use Rattle.std.proofs.Common.{◌≡◌, ℕ, ◌+◌, ◌-◌, Bool, true, false, cond, ◌&&◌, eqb, List, [], ◌∷◌, length, get_or, take, drop, Some, None, Option, unwrap_or, MatchOption, Bor, sym, refl, ap, ◌∙◌, arith}
use Rattle.std.specs.Cmp.Lexicographic.{pointwise}
use Rattle.std.proofs.lemmas.List.{drop_more}
use Rattle.std.proofs.Math.ListN.{drop_of_length-le}
use Rattle.script_words.specs.Words.{without_return}

and-true : (b : Bool) → (b && true) ≡ b
and-true true = refl
and-true false = refl

last_is : (s : List ℕ) → pointwise eqb (drop (length s - 1) s) (13 ∷ []) ≡ eqb (get_or s (length s - 1) 0) 13
last_is [] = refl
last_is (x ∷ xs) =
    let s = x ∷ xs in
    let i = length s - 1 in
    ap (λ r. pointwise eqb r (13 ∷ [])) (drop_more s i 0 (omega arith) ∙ ap (λ r. get_or s i 0 ∷ r) (drop_of_length-le s (omega arith)))
    ∙ and-true (eqb (get_or s i 0) 13)

pub stripped_return : (s : List ℕ) (l : Bor (List ℕ)) (o : Option (Bor (List ℕ))) → l.now ≡ s
    → MatchOption o (pointwise eqb (drop (length s - 1) s) (13 ∷ []) ≡ false) (λ x. (pointwise eqb (drop (length s - 1) s) (13 ∷ []) ≡ true) × (x.now ≡ take (length s - 1) s) × (length x.now + 1 ≡ length s))
    → (unwrap_or o l).now ≡ without_return s
stripped_return s l None p h = p ∙ sym (ap (λ b. cond b (take (length s - 1) s) s) (sym (last_is s) ∙ h))
stripped_return s l (Some x) p h = h.1 ∙ sym (ap (λ b. cond b (take (length s - 1) s) s) (sym (last_is s) ∙ h.0))
