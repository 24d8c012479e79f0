use Rattle.std.proofs.Common.{◌≡◌, ℕ, List, Option, Some, None, Bor, [], refl, ap, ◌∙◌, get_or, arith}
use Rattle.std.specs.Option.{option_map, unwrap_or}
use Rattle.std.specs.List.{slice_get}
use Rattle.std.proofs.lemmas.Grind.{common_steps}
use Rattle.std.proofs.lemmas.Option.{unwrap_or-slice_get}
use Rattle.std.proofs.lemmas.Iterator.Consumers.{nth_from_yields_List, YieldsList-from_first}
use Rattle.script_words.specs.Words.{words_in}
use Rattle.script_words.proofs.words.word.Goals as goal

read_or : (r : Option (Bor (List ℕ))) (d : Bor (List ℕ)) → (unwrap_or r d).now ≡ unwrap_or (option_map (λ x. x.now) r) d.now
read_or None d = refl
read_or (Some x) d = refl

pub returns : goal.returns
returns c =
    let ws = words_in c.args.content.now in
    let n : option_map (λ x. x.now) c.nth.result ≡ slice_get ws _ =
    nth_from_yields_List c.nth.result c.nth.new.self _ c.nth.ensures.ran (YieldsList-from_first (λ x. x.now) (λ s. words_in s.rest.now) ws refl) in
    let e : c.unwrap_or.result.now ≡ get_or ws _ [] =
    ap (λ x. x.now) c.unwrap_or.ensures ∙ read_or c.nth.result _ ∙ ap (λ o. unwrap_or o []) n ∙ unwrap_or-slice_get ws _ [] in
    grind (arith, common_steps)
