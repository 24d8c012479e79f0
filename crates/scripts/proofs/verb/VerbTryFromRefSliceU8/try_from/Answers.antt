use Rattle.std.proofs.Common.{rules, tests, ◌≡◌, map, refl, ap, ◌∙◌}
use Rattle.std.specs.List.{find}
use Rattle.std.specs.Option.{option_map, ok_or}
use Rattle.std.proofs.lemmas.Iterator.{YieldsList-from_slice}
use Rattle.std.proofs.lemmas.Iterator.Search.{find_from_yields_List}
use Rattle.script_words.specs.Texts.{is_text}
use Rattle.scripts.specs.Commands.{verb_of}
use Rattle.scripts.specs.declared.expected.Expected.TheVariants.{Command}
use Rattle.scripts.proofs.Verbs.{plain, found, read_of}
use Rattle.scripts.proofs.verb.VerbTryFromRefSliceU8.try_from.Goals as goal

pub returns : goal.returns
unfolding verb_of
returns c =
    let word = c.args.word.now in
    let m : c.map.result ≡ option_map (λ x. x.now.1) c.find.result = search rules in
    let es = c.iter.result.rest.now in
    let f : option_map (λ x. x.now) c.find.result ≡ find (λ e. is_text word e.0.now) es =
    find_from_yields_List (λ e. is_text word e.0.now) _ _ c.find.result c.find.ensures.ran (YieldsList-from_slice es refl) (λ x b q k. search (rules, tests)) in
    let v : c.map.result ≡ verb_of word = m ∙ read_of c.find.result ∙ ap (option_map (λ e. e.1)) f ∙ found word es ∙ ap (λ es. option_map (λ e. e.1) (find (λ e. is_text word e.0) (map plain es))) c.iter.ensures.rest in
    c.ok_or.ensures.value ∙ ap (λ o. ok_or o Command) v
