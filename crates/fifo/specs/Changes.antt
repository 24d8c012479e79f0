use Rattle.std.specs.Prelude.{ℕ, ◌≡◌, Bool, cond, List, [], ◌∷◌, Some, slice_set}
use Rattle.std.specs.Borrow.{Bor, MutBor}
use Rattle.std.specs.List.{slice_get}
use Rattle.std.specs.Fn.{FnOnceReturnsAtMut, FnReturnsAt, Once, Shared}

-- f was called at element i, answered r, and ys has what it left there
abbrev pub ChangedAt : {F T R : Type 0} → Once F (MutBor T × Unit {0}) (R × (MutBor T × Unit {0})) → F → List T → ℕ → R → List T → Type 0
ChangedAt {F} {T} g f xs i r ys = (x : T) × (y : T) × (slice_get xs i ≡ Some x) × FnOnceReturnsAtMut g f x r y × (ys ≡ slice_set xs i y)

-- f may leave y at an element x
abbrev pub Changes : {F T : Type 0} → Shared F (MutBor T × Unit {0}) (Unit {0} × (MutBor T × Unit {0})) → F → T → T → Type 0
Changes {F} {T} g f x y = (p : MutBor T) × (q : MutBor T) × (p.now ≡ x) × g.post f (p, tt) (tt, (q, tt)) × (q.now ≡ y)

-- f was called at each element, and ys has what it left there
abbrev pub EachChanged : {F T : Type 0} → Shared F (MutBor T × Unit {0}) (Unit {0} × (MutBor T × Unit {0})) → F → List T → List T → Type 0
EachChanged g f [] [] = Unit {0}
EachChanged g f [] (y ∷ ys) = ⊥
EachChanged g f (x ∷ xs) [] = ⊥
EachChanged g f (x ∷ xs) (y ∷ ys) = Changes g f x y × EachChanged g f xs ys

-- f was called at each element, and ys has those to which it said true, in order
abbrev pub Retained : {F T : Type 0} → Shared F (Bor T × Unit {0}) Bool → F → List T → List T → Type 0
Retained g f [] ys = (ys ≡ [])
Retained {F} {T} g f (x ∷ xs) ys = (b : Bool) × (zs : List T) × FnReturnsAt g f x b × (ys ≡ cond b (x ∷ zs) zs) × Retained g f xs zs
