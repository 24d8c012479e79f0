use Rattle.std.proofs.Common.{◌≡◌, ap, ◌∙◌}
use Rattle.script_numbers.specs.Numbers.{number_of}
use Rattle.script_numbers.proofs.Written.{reads_back}
use Rattle.script_numbers.proofs.number.number.Goals as goal

pub returns : goal.returns
unfolding number_of
returns c =
    let value : c.unsigned32.result ≡ number_of c.args.word.now = c.unsigned32.ensures in
    record { value = value; back = λ n h e. value ∙ ap number_of e ∙ reads_back n h }
