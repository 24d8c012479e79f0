-- What a line does to the certificates.
use Rattle.std.specs.Prelude.{List, Some, None, Ok, Err, Result}
use Rattle.sources.specs.declared.fault.SourceFault.{SourceFault}
use Rattle.sources.specs.declared.rows.Expiry.{Expiry}
use Rattle.sources.specs.Rows.{node_of_expiry}
use Rattle.sources.specs.Image.{answer, rows_after}
use Rattle.sources.specs.Certificates.{entering}
use Rattle.renewals.specs.declared.problem.Problem.{Problem}
use Rattle.renewals.specs.declared.problem.Problem.TheVariants.{Unreadable, Refused}
use Rattle.renewals.specs.Line.{Line}

abbrev pub reported : Result (Unit {0}) SourceFault → Result (Unit {0}) Problem
reported (Ok x) = Ok x
reported (Err fault) = Err (Refused fault)

-- a blank line is passed over, an entry is answered as the source answers it
abbrev pub line_answer : List Expiry → Line → Result (Unit {0}) Problem
line_answer rows (Ok None) = Ok tt
line_answer rows (Ok (Some row)) = reported (answer (entering rows row.node row.end_day))
line_answer rows (Err e) = Err Unreadable

abbrev pub rows_after_line : List Expiry → Line → List Expiry
rows_after_line rows (Ok None) = rows
rows_after_line rows (Ok (Some row)) = rows_after node_of_expiry (entering rows row.node row.end_day) rows
rows_after_line rows (Err e) = rows
