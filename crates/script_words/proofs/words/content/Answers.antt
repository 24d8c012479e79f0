use Rattle.std.proofs.Common.{rules, ◌≡◌, take, sym, ap, ◌∙◌, eqb, refl}
use Rattle.std.specs.List.{position_or_len}
use Rattle.std.proofs.lemmas.List.Sums.{position_or_len_is}
use Rattle.script_words.specs.Words.{without_return, before_comment}
use Rattle.script_words.proofs.Returns.{stripped_return}
use Rattle.script_words.proofs.words.content.Goals as goal

pub returns : goal.returns
returns c =
    let line = c.unwrap_or-line.result.now in
    let end : position_or_len (λ b. eqb b 35) line ≡ c.first_place.result =
    position_or_len_is (λ b. eqb b 35) line c.first_place.result 0 c.first_place.ensures.bound
    (λ k l. let h = c.first_place.ensures.before k l in search rules)
    (λ l. let h = c.first_place.ensures.found l in search rules) in
    let e : line ≡ without_return c.args.line.now =
    ap (λ x. x.now) c.unwrap_or-line.ensures ∙ stripped_return c.args.line.now c.args.line c.strip_suffix.result refl c.strip_suffix.ensures.cases in
    ap (λ n. take n line) (sym end) ∙ ap before_comment e
