-- The records of the table and the list of items that they stand for.
use Rattle.std.proofs.Common.{◌≡◌, Bool, true, false, cond, List, [], ◌∷◌, map, filter, sym, refl, ap, ◌∙◌}
use Rattle.std.specs.Borrow.{Bor, MutBor}
use Rattle.std.specs.Fn.{Shared, FnReturnsAt}
use Rattle.fifo.specs.Changes.{EachChanged, Retained}
use Rattle.fifo.proofs.Changed.{each_seen, retained_is}
use Rattle.items.specs.declared.item.MonitoredItem.{MonitoredItem}
use Rattle.items.specs.Item.{Item, item_of}

kept_map : {X Y : Type 0} (v : X → Y) (p : Y → Bool) (xs : List X) → map v (filter (λ x. p (v x)) xs) ≡ filter p (map v xs)
kept_map v p [] = refl
kept_map v p (x ∷ xs) = at (p (v x)) (kept_map v p xs)
  where
    at : (b : Bool) → map v (filter (λ x. p (v x)) xs) ≡ filter p (map v xs) → map v (cond b (x ∷ filter (λ x. p (v x)) xs) (filter (λ x. p (v x)) xs)) ≡ cond b (v x ∷ filter p (map v xs)) (filter p (map v xs))
    at true ih = ap (λ l. v x ∷ l) ih
    at false ih = ih

-- those of whose items the test holds stay
pub kept_is : {F : Type 0} (g : Shared F (Bor MonitoredItem × Unit {0}) Bool) (f : F) (p : Item → Bool) → ((m : MonitoredItem) (b : Bool) → FnReturnsAt g f m b → b ≡ p (item_of m)) → (xs ys : List MonitoredItem) → Retained g f xs ys → map item_of ys ≡ filter p (map item_of xs)
kept_is g f p h xs ys e = ap (map item_of) (retained_is g f (λ m. p (item_of m)) h xs ys e) ∙ kept_map item_of p xs

-- each item is changed as the call at its record does
pub each_is : {F : Type 0} (g : Shared F (MutBor MonitoredItem × Unit {0}) (Unit {0} × (MutBor MonitoredItem × Unit {0}))) (f : F) (w : Item → Item) (xs ys : List MonitoredItem) → EachChanged g f xs ys
    → ((p q : MutBor MonitoredItem) → g.post f (p, tt) (tt, (q, tt)) → item_of q.now ≡ w (item_of p.now)) → map item_of ys ≡ map w (map item_of xs)
each_is g f w xs ys e h = each_seen g f item_of w (λ x y k. ap item_of (sym k.4) ∙ h k.0 k.1 k.3 ∙ ap (λ m. w (item_of m)) k.2) xs ys e
