use Rattle.std.proofs.Common.{◌≡◌, false, cond, eqb, length, Some, None, fold, refl, sym, ap, ◌∙◌, rules, tests}
use Rattle.std.proofs.lemmas.Iterator.{YieldsList-from_slice}
use Rattle.script_numbers.specs.Numbers.{grown}
use Rattle.script_numbers.proofs.Folds.{tried}
use Rattle.script_numbers.proofs.number.numeral.Goals as goal

pub returns : goal.returns
returns c =
    let xs = c.args.digits.now in
    let k = grown c.args.base in
    let some : eqb (length xs) 0 ≡ false = search rules in
    tried _ k (λ x. x.now) _ _ (λ x. refl) (λ a x r q e. search (rules, tests)) _ _ _ 0 c.try_fold.result xs c.try_fold.ensures.ran (YieldsList-from_slice xs cc)
    ∙ sym (ap (λ b. cond b None (fold k (Some 0) xs)) some)
