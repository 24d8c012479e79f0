use Rattle.std.proofs.Common.{rules, ◌≡◌, ◌-◌, [], length, take, drop, sym, ap, ◌∙◌, arith}
use Rattle.std.specs.List.{prefix_len}
use Rattle.std.proofs.lemmas.List.Sums.{prefix_len_is}
use Rattle.std.proofs.lemmas.Slice.{between_to_end}
use Rattle.script_words.specs.Words.{is_blank, is_visible, words_in, ended}
use Rattle.script_words.proofs.Splits.{skips_blanks, first_is, nonempty, no_word}
use Rattle.script_words.proofs.words.first_word.Goals as goal

pub returns : goal.returns
returns c =
    let bs = c.args.content.now in
    let start = c.first_place-start.result in
    let n = c.first_place.result in
    let behind = take (length bs - start) (drop start bs) in
    let all : drop start bs ≡ behind = sym (between_to_end bs start (length bs) (omega arith)) in
    let starts : prefix_len is_blank bs ≡ start =
    prefix_len_is is_blank bs start 0 c.first_place-start.ensures.bound
    (λ k l. let h = c.first_place-start.ensures.before k l in search rules)
    (λ l. let h = c.first_place-start.ensures.found l in search rules) in
    let ends : prefix_len is_visible behind ≡ n =
    prefix_len_is is_visible behind n 0 c.first_place.ensures.bound
    (λ k l. let h = c.first_place.ensures.before k l in search rules)
    (λ l. let h = c.first_place.ensures.found l in search rules) in
    let empty : length c.split_at.result.0.now ≡ 0 → n ≡ 0 = λ h. omega arith in
    let nothing : length c.split_at.result.0.now ≡ 0 → words_in behind ≡ [] = λ h. no_word bs behind start starts all (ends ∙ empty h) in
    let split : words_in bs ≡ ended c.split_at.result.0.now (words_in c.split_at.result.1.now) =
    first_is bs start n starts (ap (prefix_len is_visible) all ∙ ends)
    ∙ ap (λ r. ended (take n r) (words_in (drop n r))) all
    ∙ ap (λ w. ended w (words_in (drop n behind))) (sym c.split_at.ensures.front)
    ∙ ap (λ r. ended c.split_at.result.0.now (words_in r)) (sym c.split_at.ensures.back) in
    record {
      some = λ h. split ∙ nonempty c.split_at.result.0.now _ h;
      none = λ h. (skips_blanks bs ∙ ap (λ i. words_in (drop i bs)) starts ∙ ap words_in all ∙ nothing h, ap words_in (c.split_at.ensures.back ∙ ap (λ i. drop i behind) (empty h)) ∙ nothing h);
    }
