use Rattle.std.proofs.Common.{◌≡◌, rules, arith}
use Rattle.std.proofs.lemmas.Grind.{common_steps}
use Rattle.script_words.specs.Words.{in_class, place}
use Rattle.script_words.proofs.Places.{place_is}
use Rattle.script_words.proofs.words.place.Goals as goal

pub returns : goal.returns
returns c =
    let p = in_class c.args.class in
    let found : c.first_place.result ≡ place p _ =
    place_is p _ c.first_place.result c.first_place.ensures.bound
    (λ k l. let h = c.first_place.ensures.before k l in search rules)
    (λ l. let h = c.first_place.ensures.found l in search rules) in
    record {
      value = grind (arith, common_steps);
      bound = grind (arith, common_steps);
    }
