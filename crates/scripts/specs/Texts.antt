-- What is printed of what was expected.
use Rattle.std.specs.Prelude.{ℕ, List, Some, codes, Option}
use Rattle.scripts.specs.declared.expected.Expected.{Expected}
use Rattle.scripts.specs.declared.expected.Expected.TheVariants.{Command, Number, NumberOrMatch, Status, Signed, Time, Double, Value, Switch, Policy, Acknowledgement, End}

abbrev pub expected_text : Expected → Option (List ℕ)
expected_text Command = Some (codes "a command word")
expected_text Number = Some (codes "a number of 32 bits")
expected_text NumberOrMatch = Some (codes "a number of 32 bits or match")
expected_text Status = Some (codes "a number of 32 bits, in decimal or behind 0x")
expected_text Signed = Some (codes "a signed number of 32 bits")
expected_text Time = Some (codes "a signed number of 64 bits")
expected_text Double = Some (codes "a Double")
expected_text Value = Some (codes "empty, true, false, int32:N or double:X")
expected_text Switch = Some (codes "on or off")
expected_text Policy = Some (codes "oldest or newest")
expected_text Acknowledgement = Some (codes "SUB:NUMBER")
expected_text End = Some (codes "the end of the line")
