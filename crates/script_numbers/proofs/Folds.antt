-- A `try_fold` that may end early is the fold of a step that passes `None` on.
use Rattle.std.proofs.Common.{◌≡◌, ◌+◌, List, [], ◌∷◌, map, length, take, drop, take-append-drop, Some, None, Option, fold, MatchOption, sym, refl, ap, ◌∙◌, subst}
use Rattle.std.specs.Fn.{Mut, Called}
use Rattle.std.specs.List.{FoldsTo}
use Rattle.std.specs.Iterator.{TryFoldTurn, TryFoldsItems, Yields}
use Rattle.std.specs.ControlFlow.{continue_value}
use Rattle.std.specs.declared.ops.ControlFlow.{ControlFlow}
use Rattle.std.specs.declared.ops.ControlFlow.TheVariants.{Continue, Break}
use Rattle.std.proofs.lemmas.Iterator.{YieldsList}
use Rattle.std.proofs.lemmas.Iterator.Consumers.{YieldsList-so_far, YieldsList-turn, YieldsList-end}
use Rattle.std.proofs.lemmas.List.{drop_more}
use Rattle.std.proofs.lemmas.List.Sums.{fold-append}

stays : {B C : Type 0} (k : Option B → C → Option B) → ((x : C) → k None x ≡ None) → (xs : List C) → fold k None xs ≡ None
stays k none [] = refl
stays k none (x ∷ xs) = ap (λ o. fold k o xs) (none x) ∙ stays k none xs

module _ {A B C F : Type 0} (E : Type 0) (k : Option B → C → Option B) (v : A → C) (g : Mut F (B × (A × Unit {0})) (Option B)) (f : F)
    (none : (x : C) → k None x ≡ None) (calls : (a : B) (x : A) (r : Option B) (q : F) → Called g f (a, (x, tt)) r q → (q ≡ f) × (r ≡ k (Some a) (v x))) where
  abbrev branches : Option B → ControlFlow E B → Type 0
  branches s r = s ≡ continue_value r

  goes : (xs : List A) (a b : B) (q : F) → FoldsTo {P = F × B} (TryFoldTurn g branches) (f, a) xs (q, b) → (q ≡ f) × (fold k (Some a) (map v xs) ≡ Some b)
  goes [] a b q e = (sym (ap (λ p. p.0) e), ap (λ p. Some p.1) e)
  goes (x ∷ xs) a b q e =
      let j = e.0 in
      let c = calls a x e.1.0 j.0 e.1.1 in
      let s : k (Some a) (v x) ≡ Some j.1 = sym c.1 ∙ e.1.2 in
      let h : FoldsTo {P = F × B} (TryFoldTurn g branches) (f, j.1) xs (q, b) = subst (λ p. FoldsTo {P = F × B} (TryFoldTurn g branches) (p, j.1) xs (q, b)) c.0 e.2 in
      let ih = goes xs j.1 b q h in
      (ih.0, ap (λ o. fold k o (map v xs)) s ∙ ih.1)

  pub tried : {S : Type 0} (steps : S → Option A → S → Type 0) (s u : S) (a : B) (r : Option B) (all : List C) → TryFoldsItems steps g branches (λ e r. r ≡ None) s f a r u → YieldsList steps v s all → r ≡ fold k (Some a) all
  tried {S} steps s u a r all t y = at t.1 t.0 t.2 t.3 t.4.0 t.4.1 t.4.2 t.5 t.6 where
    at : (o : Option A) (xs : List A) (q : F) (b : B) (w : S) → Yields steps s xs w → steps w o u → FoldsTo {P = F × B} (TryFoldTurn g branches) (f, a) xs (q, b)
        → MatchOption o (branches r (Continue b)) (λ x. (z : Option B) × (h : F) × (e : E) × Called g q (b, (x, tt)) z h × branches z (Break e) × (r ≡ None))
        → r ≡ fold k (Some a) all
    at None xs q b w yields next folds m = m ∙ sym (goes xs a b q folds).1 ∙ ap (fold k (Some a)) (YieldsList-end y xs w yields None u refl next).0
    at (Some x) xs q b w yields next folds m =
        let i = length xs in
        let h = goes xs a b q folds in
        let n = YieldsList-turn y xs w yields (Some x) u x refl next in
        let front : map v xs ≡ take i all = YieldsList-so_far y xs w yields in
        let fails : k (Some b) (v x) ≡ None = sym (calls b x m.0 m.1 (subst (λ p. Called g p (b, (x, tt)) m.0 m.1) h.0 m.3)).1 ∙ m.4 in
        m.5
        ∙ sym (ap (fold k (Some a)) (sym (take-append-drop i all))
        ∙ fold-append k (Some a) (take i all) (drop i all)
        ∙ ap (λ o. fold k o (drop i all)) (ap (fold k (Some a)) (sym front) ∙ h.1)
        ∙ ap (fold k (Some b)) (drop_more all i (v x) n.0 ∙ ap (λ c. c ∷ drop (i + 1) all) (sym n.1))
        ∙ ap (λ o. fold k o (drop (i + 1) all)) fails
        ∙ stays k none (drop (i + 1) all))
