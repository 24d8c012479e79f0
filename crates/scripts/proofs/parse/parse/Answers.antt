use Rattle.std.proofs.Common.{◌≡◌, ◌∷◌, Err, option_map, subst, rules}
use Rattle.std.proofs.lemmas.Result.{err_from_is_err_and}
use Rattle.script_words.specs.Words.{words_of}
use Rattle.scripts.specs.Arguments.{left}
use Rattle.scripts.specs.Commands.{said, some_of, starting_with, line_of}
use Rattle.scripts.specs.Errors.{Answers}
use Rattle.scripts.proofs.Lines.{fails, starts}
use Rattle.scripts.proofs.parse.parse.Goals as goal

pub returns-in_err-command : goal.returns-in_err-command
returns-in_err-command c =
    let p = err_from_is_err_and c.from_residual.result c.from_residual.ensures.1 in
    let e = c.in_err-command.field-0.0 in
    let line : some_of (starting_with c.word-first.result.now (c.word-first.result.now ∷ left c.word-first.new.self) c.args.other) ≡ line_of c.args.line.now c.args.other =
    starts (words_of c.args.line.now) c.word-first.result.now (left c.word-first.new.self) c.args.other (search rules) (search rules) (search rules) in
    rw (p.1, p.2) (subst (Answers (option_map said) (Err e)) line (fails e _ (search rules)))
