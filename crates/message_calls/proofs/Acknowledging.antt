-- The loop over the acknowledgements.
use Rattle.std.proofs.Common.{◌≡◌, ℕ, suc, ◌≤◌, List, [], ◌∷◌, length, drop, refl, ap, ◌∙◌, subst, arith}
use lib.Seq.{sets}
use Rattle.std.proofs.lemmas.List.{drop_all}
use Rattle.subscriptions.specs.declared.figures.Figures.{Figures}
use Rattle.retransmission.specs.Rows.{Kept}
use Rattle.answers.specs.declared.acknowledgement.Acknowledgement.{Acknowledgement}
use Rattle.answers.specs.declared.acknowledgement.AcknowledgementResult.{AcknowledgementResult}
use Rattle.item_table.specs.Turn.{over}
use Rattle.model.specs.State.{State}
use Rattle.model.specs.Publish.{AllAcknowledged, acknowledged, all_acknowledged, after_acknowledging}
use Rattle.model.proofs.Writing.{sets_over}

abbrev pub acknowledged_in : List Acknowledgement → State → AllAcknowledged
acknowledged_in acks s = all_acknowledged acks s.subscriptions s.kept

-- what is left, taken from this state on, gives the whole
pub record Going (whole : AllAcknowledged) (s₀ : State) (begun : List AcknowledgementResult) (left : AllAcknowledged) (s : State) (results : List AcknowledgementResult) (i : ℕ) : Type 0 where
  pub subscriptions : left.subscriptions ≡ whole.subscriptions
  pub kept : left.kept ≡ whole.kept
  pub others : after_acknowledging s whole ≡ after_acknowledging s₀ whole
  pub written : sets results i left.results ≡ sets begun 0 whole.results
  pub long : length results ≡ length begun

-- as many results as acknowledgements
pub as_many : (acks : List Acknowledgement) (fs : List Figures) (kept : List Kept) → length (all_acknowledged acks fs kept).results ≡ length acks
as_many [] fs kept = refl
as_many (a ∷ acks) fs kept = ap suc (as_many acks (acknowledged a fs kept).subscriptions (acknowledged a fs kept).kept)

-- none is left
pub all_written : (acks : List Acknowledgement) (s₀ s : State) (begun results : List AcknowledgementResult) (i : ℕ) → length acks ≤ i → length acks ≤ length begun →
    Going (acknowledged_in acks s₀) s₀ begun (acknowledged_in (drop i acks) s) s results i → results ≡ over (acknowledged_in acks s₀).results begun
all_written acks s₀ s begun results i l m g =
    let h = subst (λ xs. Going (acknowledged_in acks s₀) s₀ begun (acknowledged_in xs s) s results i) (drop_all i acks l) g in
    let n = as_many acks s₀.subscriptions s₀.kept in
    h.written ∙ sets_over (acknowledged_in acks s₀).results begun (omega (arith, n))
