-- The handles of the responses, in order, and the late list after each call.
use Rattle.std.proofs.Common.{◌≡◌, ℕ, List, [], ◌∷◌, ◌++◌, map, sym, ap, ◌∙◌, append_assoc}
use Rattle.std.proofs.lemmas.List.{append-nil, map-append}
use Rattle.model.specs.State.{State, new_state}
use Rattle.model.specs.Sound.{Sound}
use Rattle.soundness.proofs.Keeps.{sound_new}
use Rattle.laws.specs.Runs.{Scene, called, final, responses, asked, asked_by}
use Rattle.laws.specs.Laws.{handle_of, InOrder, LateList}
use Rattle.laws.proofs.Sounds.{sound_call, sound_final}
use Rattle.laws.proofs.Effects.{effect}

-- from any sound state, its requests come first
pub run_in_order : (s : State) → Sound s → (cs : List Scene) → map handle_of (responses s cs) ++ (final s cs).requests ≡ s.requests ++ asked s cs
run_in_order s h [] = sym (append-nil s.requests)
run_in_order s h (c ∷ cs) =
    let d = called s c in
    ap (λ l. l ++ (final d.state cs).requests) (map-append handle_of d.responses (responses d.state cs))
    ∙ append_assoc (map handle_of d.responses) (map handle_of (responses d.state cs)) (final d.state cs).requests
    ∙ ap (λ l. map handle_of d.responses ++ l) (run_in_order d.state (sound_call s h c) cs)
    ∙ sym (append_assoc (map handle_of d.responses) d.state.requests (asked d.state cs))
    ∙ ap (λ l. l ++ asked d.state cs) (effect s h c).handles
    ∙ append_assoc s.requests (asked_by s c) (asked d.state cs)

pub in_order : (first : ℕ) (scenes : List Scene) → InOrder first scenes
in_order first scenes = run_in_order (new_state first) (sound_new first) scenes

pub late_list : (first : ℕ) (scenes : List Scene) → LateList first scenes
late_list first scenes before c after e = (effect (final (new_state first) before) (sound_final first before) c).late
