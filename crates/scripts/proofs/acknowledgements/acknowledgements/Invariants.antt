use Rattle.std.proofs.Common.{◌≡◌, vec_items}
use Rattle.script_words.specs.Words.{words_in}
use Rattle.scripts.specs.Arguments.{acknowledgements_of}
use Rattle.scripts.proofs.Lists.{joined}
use Rattle.scripts.proofs.acknowledgements.acknowledgements.Given as goal

-- those read, and then those ahead
abbrev pub invariant-loop-word : goal.invariant-loop-word
invariant-loop-word l = joined (vec_items l.read) (acknowledgements_of (words_in l.word-iterator.rest.now)) ≡ acknowledgements_of (words_in l.fn.words.rest.now)
