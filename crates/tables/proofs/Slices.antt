-- The plain data of the records in use, where a record's key is the key of its data.
use Rattle.std.proofs.Common.{◌≡◌, ℕ, ◌<◌, ◌≤◌, List, map, length, get_or, take, set, Some, None, sym, ap, ◌∙◌, arith, length-take}
use Rattle.std.specs.List.{remove}
use Rattle.std.specs.Option.{option_map}
use Rattle.std.proofs.lemmas.List.{length-map, map-set, get_or-map, get_or-take}
use Rattle.fifo.specs.Lists.{position, lookup, replaced, without}
use Rattle.std.proofs.Math.Seq.{take-set-lt}
use Rattle.tables.proofs.Plain as plain
use Rattle.fifo.proofs.Keys.{lookup_position, lookup_none, position_map, set_position, replaced_none, removed_position, removed_map, without_none}

module _ {X Y : Type 0} (g : X → Y) (places : List X) (n : ℕ) where
  pub plain_length : n ≤ length places → length (map g (take n places)) ≡ n
  plain_length le = simp (length-map, length-take) (omega arith)

  pub plain_at : (i : ℕ) (x : X) → x ≡ get_or (take n places) i x → i < length (map g (take n places)) → (d : Y) → g x ≡ get_or (map g (take n places)) i d
  plain_at i x e lt d =
      let h : i < length (take n places) = omega (arith, length-map (take n places) g) in
      ap g e ∙ sym (get_or-map g (take n places) i x d h)

  pub plain_put : (i : ℕ) (x : X) → i < n → map g (take n (set places i x)) ≡ set (map g (take n places)) i (g x)
  plain_put i x lt = ap (map g) (take-set-lt n places i x lt) ∙ map-set g (take n places) i x

  -- by key
  module _ (f : Y → ℕ) (t : X → ℕ) (law : (x : X) → t x ≡ f (g x)) (k : ℕ) where
    same : t ≡ (λ x. f (g x))
    same = λ i x. law x i

    plain_position : position t k (take n places) ≡ position f k (map g (take n places))
    plain_position = ap (λ h. position h k (take n places)) same ∙ position_map g f k (take n places)

    pub plain_lookup : option_map g (lookup t k (take n places)) ≡ lookup f k (map g (take n places))
    plain_lookup = plain.plain_lookup g f t law k (take n places)

    pub found : (i : ℕ) (x : X) → i < n → x ≡ get_or places i x → Some i ≡ position t k (take n places) → Some (g x) ≡ lookup f k (map g (take n places))
    found i x lt r e =
        ap (λ y. Some (g y)) (r ∙ sym (get_or-take n places i x lt))
        ∙ sym (ap (option_map g) (lookup_position t k (take n places) i x (sym e)))
        ∙ plain_lookup

    pub missing : None ≡ position t k (take n places) → None ≡ lookup f k (map g (take n places))
    missing e = sym (ap (option_map g) (lookup_none t k (take n places) (sym e))) ∙ plain_lookup

    pub stored : (i : ℕ) (x : X) → t x ≡ k → i < n → Some i ≡ position t k (take n places) → map g (take n (set places i x)) ≡ replaced f (g x) (map g (take n places))
    stored i x h lt e =
        plain_put i x lt ∙ set_position f k (map g (take n places)) i (g x) (sym (law x) ∙ h) (sym plain_position ∙ sym e)

    pub unstored : (x : X) → t x ≡ k → None ≡ position t k (take n places) → map g (take n places) ≡ replaced f (g x) (map g (take n places))
    unstored x h e = sym (replaced_none f k (map g (take n places)) (g x) (sym (law x) ∙ h) (sym plain_position ∙ sym e))

    pub removed_at : (i : ℕ) (xs : List X) → xs ≡ remove (take n places) i → Some i ≡ position t k (take n places) → map g xs ≡ without f k (map g (take n places))
    removed_at i xs a e =
        ap (map g) a ∙ removed_map g (take n places) i ∙ removed_position f k (map g (take n places)) i (sym plain_position ∙ sym e)

    pub unremoved : None ≡ position t k (take n places) → map g (take n places) ≡ without f k (map g (take n places))
    unremoved e = sym (without_none f k (map g (take n places)) (sym plain_position ∙ sym e))
