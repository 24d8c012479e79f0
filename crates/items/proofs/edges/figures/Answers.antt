use Rattle.std.proofs.Common.{◌≡◌, true, false, cond, pos, Some, sym, refl, ap, ◌∙◌, subst}
use lib.Ieee.{lt}
use Rattle.values.specs.declared.filter.Filter.{Filter}
use Rattle.values.specs.Change.{changed}
use Rattle.values.specs.Edges.{int}
use Rattle.items.specs.Queue.{queued}
use Rattle.items.specs.Item.{offered, with_waiting}
use Rattle.items.specs.Edges.{begun}
use Rattle.items.proofs.edges.figures.Goals as goal

pub returns : goal.returns
unfolding lt
returns c = (
  refl,
  refl,
  refl,
  refl,
  refl,
  refl,
  refl,
  refl,
  λ f e.
      let first = offered (begun f) (int (pos 100)) in
      let keeps : changed f.filter (int (pos 100)) (int (pos 106)) ≡ false = subst (λ (g : Filter). changed g (int (pos 100)) (int (pos 106)) ≡ false) (sym e) refl in
      let queues : changed f.filter (int (pos 100)) (int (pos 112)) ≡ true = subst (λ (g : Filter). changed g (int (pos 100)) (int (pos 112)) ≡ true) (sym e) refl in
      ap (λ b. (offered (cond b (with_waiting first (Some (int (pos 106))) (queued 8 true first.waiting (int (pos 106)))) first) (int (pos 112))).waiting) keeps
      ∙ ap (λ b. (cond b (with_waiting first (Some (int (pos 112))) (queued 8 true first.waiting (int (pos 112)))) first).waiting) queues,
)
