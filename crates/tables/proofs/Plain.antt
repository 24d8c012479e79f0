-- The plain data of records, where a record's key is the key of its data.
use Rattle.std.proofs.Common.{◌≡◌, ℕ, List, map, Some, None, Option, refl, ap, ◌∙◌}
use Rattle.std.specs.Option.{option_map}
use Rattle.fifo.specs.Lists.{lookup, replaced, without}
use Rattle.fifo.proofs.Keys.{lookup_map, replaced_map, without_map}

module _ {X Y : Type 0} (g : X → Y) (f : Y → ℕ) (t : X → ℕ) (law : (x : X) → t x ≡ f (g x)) where
  same : t ≡ (λ x. f (g x))
  same = λ i x. law x i

  pub plain_lookup : (k : ℕ) (xs : List X) → option_map g (lookup t k xs) ≡ lookup f k (map g xs)
  plain_lookup k xs = ap (λ h. option_map g (lookup h k xs)) same ∙ lookup_map g f k xs

  -- the same, where the record is read by v
  pub plain_read : {Z : Type 0} (v : Z → X) (o : Option Z) (k : ℕ) (xs : List X) → option_map v o ≡ lookup t k xs → option_map (λ z. g (v z)) o ≡ lookup f k (map g xs)
  plain_read {Z} v o k xs e = twice o ∙ ap (option_map g) e ∙ plain_lookup k xs
    where
      twice : (o : Option Z) → option_map (λ z. g (v z)) o ≡ option_map g (option_map v o)
      twice None = refl
      twice (Some z) = refl

  pub plain_replaced : (xs : List X) (y : X) → map g (replaced t y xs) ≡ replaced f (g y) (map g xs)
  plain_replaced xs y = ap (λ h. map g (replaced h y xs)) same ∙ replaced_map g f xs y

  pub plain_without : (k : ℕ) (xs : List X) → map g (without t k xs) ≡ without f k (map g xs)
  plain_without k xs = ap (λ h. map g (without h k xs)) same ∙ without_map g f k xs
