-- What is printed of a problem, a verdict and the counts.
use Rattle.std.specs.Prelude.{ℕ, List, [], ◌++◌, Some, codes, decimal, Option}
use Rattle.sources.specs.Faults.{source_refusal, source_fault_name}
use Rattle.renewals.specs.declared.problem.Problem.{Problem}
use Rattle.renewals.specs.declared.problem.Problem.TheVariants.{Unreadable, Refused}
use Rattle.renewals.specs.declared.report.Verdict.{Verdict}
use Rattle.renewals.specs.declared.report.Verdict.TheVariants.{Expired, Renew, Valid}
use Rattle.renewals.specs.declared.report.Counts.{Counts}

-- every problem has a text
abbrev pub problem_text : Problem → Option (List ℕ)
problem_text Unreadable = Some (codes "cannot be read")
problem_text (Refused fault) = Some (codes "refused " ++ (decimal (source_refusal fault).number ++ (codes " " ++ source_fault_name fault)))

-- what is printed behind the days left
abbrev pub mark_of : Verdict → List ℕ
mark_of Expired = codes " EXPIRED"
mark_of Renew = codes " RENEW"
mark_of Valid = []

abbrev pub counts_text : Counts → List ℕ
counts_text c = codes "nodes " ++ (decimal c.nodes ++ (codes " expired " ++ (decimal c.expired ++ (codes " renew " ++ decimal c.renew))))
