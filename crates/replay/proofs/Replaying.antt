-- The loop over the scenes.
use Rattle.std.proofs.Common.{◌≡◌, ℕ, ◌≤◌, List, [], ◌++◌, map, length, drop, sym, ap, ◌∙◌}
use Rattle.std.proofs.lemmas.List.{append-nil, drop_all}
use Rattle.messages.specs.declared.response.Response.{Response}
use Rattle.model.specs.State.{State, new_state}
use Rattle.laws.specs.Runs.{Scene, final, responses}
use Rattle.laws.proofs.Lawful.{lawful}
use Rattle.replay.specs.Replay.{Replayed}

-- `left` is what has still to run, from the state s and with the log so far
pub record Replaying (first : ℕ) (scenes left : List Scene) (s : State) (log : List Response) : Type 0 where
  pub ends : final s left ≡ final (new_state first) scenes
  pub sent : log ++ responses s left ≡ responses (new_state first) scenes

-- none is left
pub comes : {X : Type 0} (shown : X → Scene) (first : ℕ) (xs : List X) (i : ℕ) (s : State) (log : List Response) →
    Replaying first (map shown xs) (map shown (drop i xs)) s log → length xs ≤ i → Replayed first (map shown xs) s log
comes shown first xs i s log r le =
    let d : drop i xs ≡ [] = drop_all i xs le in
    record {
      ends = ap (λ l. final s (map shown l)) (sym d) ∙ r.ends;
      sent = sym (append-nil log) ∙ ap (λ l. log ++ responses s (map shown l)) (sym d) ∙ r.sent;
      lawful = lawful first (map shown xs);
    }
