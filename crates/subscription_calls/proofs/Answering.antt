-- The loop that answers every queued request.
use Rattle.std.proofs.Common.{◌≡◌, ℕ, ◌≤◌, List, map, length, drop, sym, ap, ◌∙◌, arith}
use lib.Seq.{sets}
use Rattle.std.proofs.lemmas.List.{drop_all, length-map}
use Rattle.item_table.specs.Turn.{over}
use Rattle.messages.specs.declared.response.Response.{Response}
use Rattle.messages.specs.declared.response.ResponseKind.TheVariants.{NoSubscription}
use Rattle.messages.specs.Responses.{refusing}
use Rattle.model.proofs.Writing.{sets_over}

abbrev pub refusals : List ℕ → List Response
refusals hs = map (refusing NoSubscription) hs

-- what is left to write from place i on gives the whole
abbrev pub Answering : List Response → List ℕ → List Response → ℕ → Type 0
Answering begun hs out i = sets out i (refusals (drop i hs)) ≡ sets begun 0 (refusals hs)

-- none is left
pub answered : (begun : List Response) (hs : List ℕ) (out : List Response) (i : ℕ) → length hs ≤ i → length hs ≤ length begun → Answering begun hs out i → out ≡ over (refusals hs) begun
answered begun hs out i l m g =
    let n = length-map hs (refusing NoSubscription) in
    sym (ap (λ xs. sets out i (refusals xs)) (drop_all i hs l)) ∙ g ∙ sets_over (refusals hs) begun (omega (arith, m, n))
