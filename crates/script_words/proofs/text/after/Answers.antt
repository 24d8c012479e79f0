use Rattle.std.proofs.lemmas.Slice.Eq.{strip_prefix_is}
use Rattle.script_words.proofs.Rests.{stripped}
use Rattle.script_words.proofs.text.after.Goals as goal
use Rattle.std.proofs.lemmas.Bool.Decides.{Decides-eqb}

pub returns : goal.returns
returns c =
    stripped c.args.prefix.now c.args.word.now c.strip_prefix.result
    (strip_prefix_is Decides-eqb c.args.word.now c.args.prefix.now c.strip_prefix.result c.strip_prefix.ensures.cases)
