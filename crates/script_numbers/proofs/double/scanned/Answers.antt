use Rattle.std.proofs.Common.{refl, rules, tests}
use Rattle.std.proofs.lemmas.Iterator.{YieldsList-from_slice}
use Rattle.script_numbers.specs.Doubles.{step}
use Rattle.script_numbers.specs.declared.double.Reading.TheVariants.{Start}
use Rattle.script_numbers.proofs.Folds.{tried}
use Rattle.script_numbers.proofs.double.scanned.Goals as goal

pub returns : goal.returns
returns c =
    let xs = c.args.digits.now in
    tried _ step (λ x. x.now) _ _ (λ x. refl) (λ a x r q e. search (rules, tests)) _ _ _ Start c.try_fold.result xs c.try_fold.ensures.ran (YieldsList-from_slice xs cc)
