use Rattle.std.proofs.Common.{◌≡◌, drop, fold, Ok}
use Rattle.renewals.specs.declared.line.Reading.TheVariants.{Start}
use Rattle.renewals.specs.Line.{next}
use Rattle.renewals.proofs.line.scanned.Given as goal

-- what is left of the line leads to what the whole line leads to
abbrev pub invariant-loop-byte : goal.invariant-loop-byte
invariant-loop-byte l = fold next (Ok l.reading) (drop l.byte-index l.line) ≡ fold next (Ok Start) l.line
