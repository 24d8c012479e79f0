use Rattle.std.proofs.Common.{◌≡◌, [], ◌∷◌, ◌++◌, Some, vec_items, sym, ap, ◌∙◌, rules}
use Rattle.script_words.specs.Words.{words_in}
use Rattle.scripts.specs.Arguments.{acknowledgement_of, acknowledgements_of, with_first}
use Rattle.scripts.proofs.Lists.{joined, joined_more}
use Rattle.scripts.proofs.acknowledgements.acknowledgements.Goals as goal

pub loop-word-preserved : goal.loop-word-preserved
loop-word-preserved c =
    let before = vec_items c.loop-word.read in
    let a = c.in_ok-ok_or.field-0 in
    let after = acknowledgements_of (words_in c.next.new.self.rest.now) in
    let e : acknowledgement_of c.in-Some.word.now ≡ Some a = search rules in
    let s : words_in c.loop-word.word-iterator.rest.now ≡ c.in-Some.word.now ∷ words_in c.next.new.self.rest.now = search rules in
    let p : vec_items c.push.new.self ≡ before ++ a ∷ [] = search rules in
    ap (λ xs. joined xs after) p
    ∙ joined_more before a after
    ∙ sym (ap (joined before) (ap acknowledgements_of s ∙ ap (λ o. with_first o after) e))
    ∙ c.loop-word.invariant
