-- Facts on the rows of kept messages.
use Rattle.std.proofs.Common.{◌≡◌, ℕ, List, [], map, set, Some, None, sym, refl, ap, ◌∙◌, ap₂}
use Rattle.std.specs.List.{slice_get}
use Rattle.std.specs.Option.{option_map}
use Rattle.std.proofs.lemmas.List.{map-set}
use Rattle.std.proofs.lemmas.Option.{get_or_from_slice_get}
use Rattle.fifo.specs.Lists.{position, replaced}
use Rattle.fifo.proofs.Keys.{key_position, lookup_position, lookup_none, lookup_map, position_map, set_position, replaced_none}
use Rattle.messages.specs.declared.message.Message.{Message}
use Rattle.retransmission.specs.declared.kept.Retransmission.{Retransmission}
use Rattle.retransmission.specs.Kept.{kept_in}
use Rattle.retransmission.specs.Rows.{shown, subscription_of, row_with, kept_of, messages_of}

abbrev pub key : Retransmission → ℕ
key r = subscription_of (shown r)

module _ (id : ℕ) (xs : List Retransmission) where
  -- the subscription has the row x, at i
  module _ (i : ℕ) (e : Some i ≡ position key id xs) (x : Retransmission) (at : slice_get xs i ≡ Some x) where
    pub kept_at : kept_in x.queue ≡ kept_of id (map shown xs)
    kept_at =
        ap (λ r. kept_in r.queue) (sym (get_or_from_slice_get xs i x x at))
        ∙ sym (ap messages_of (sym (lookup_map shown subscription_of id xs) ∙ ap (option_map shown) (lookup_position key id xs i x (sym e))))

    pub id_at : x.subscription ≡ id
    id_at = ap key (sym (get_or_from_slice_get xs i x x at)) ∙ key_position key id xs i x (sym e)

    pub changed_at : (y : Retransmission) (f : List Message → List Message) → shown y ≡ row_with x.subscription (f (kept_in x.queue)) →
        map shown (set xs i y) ≡ replaced subscription_of (row_with id (f (kept_of id (map shown xs)))) (map shown xs)
    changed_at y f s =
        map-set shown xs i y
        ∙ ap (set (map shown xs) i) (s ∙ ap₂ row_with id_at (ap f kept_at))
        ∙ set_position subscription_of id (map shown xs) i _ refl (sym (position_map shown subscription_of id xs) ∙ sym e)

  -- it has none
  module _ (e : None ≡ position key id xs) where
    pub kept_none : kept_of id (map shown xs) ≡ []
    kept_none = ap messages_of (sym (lookup_map shown subscription_of id xs) ∙ ap (option_map shown) (lookup_none key id xs (sym e)))

    pub unchanged : (ms : List Message) → map shown xs ≡ replaced subscription_of (row_with id ms) (map shown xs)
    unchanged ms =
        sym (replaced_none subscription_of id (map shown xs) (row_with id ms) refl (sym (position_map shown subscription_of id xs) ∙ sym e))
