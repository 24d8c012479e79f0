-- What a number finds among the kept messages of a subscription.
use Rattle.std.proofs.Common.{◌≡◌, ℕ, false, cond, eqb, List, [], length, is_some, None, sym, ap, ◌∙◌}
use Rattle.std.proofs.lemmas.Bool.{ne_eqb}
use Rattle.fifo.specs.Lists.{rest, position, lookup, without}
use Rattle.fifo.proofs.Keys.{lookup_none}
use Rattle.messages.specs.declared.message.Message.{Message}
use Rattle.messages.specs.Messages.{number_of}
use Rattle.retransmission.specs.Kept.{room_for}

module _ (n : ℕ) (ms : List Message) where
  pub absent : position number_of n ms ≡ None → false ≡ is_some (lookup number_of n ms)
  absent e = sym (ap is_some (lookup_none number_of n ms e))

  -- nothing has to go to make room
  pub none_goes : position number_of n ms ≡ None → (length ms ≡ 8 → ⊥) → ms ≡ room_for n ms
  none_goes e ne =
      ap (λ b. cond b (rest ms) ms) (sym (ne_eqb (length ms) 8 ne)) ∙ ap (λ b. cond b (without number_of n ms) (cond (eqb (length ms) 8) (rest ms) ms)) (absent e)
