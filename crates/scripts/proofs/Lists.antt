-- The acknowledgements, word by word.
use Rattle.std.proofs.Common.{◌≡◌, List, [], ◌∷◌, ◌++◌, Some, Ok, Err, Result, refl, ap, append_assoc}
use Rattle.answers.specs.declared.acknowledgement.Acknowledgement.{Acknowledgement}
use Rattle.scripts.specs.Arguments.{with_first}
use Rattle.scripts.specs.declared.expected.Expected.{Expected}

-- those before, and then these
abbrev pub joined : List Acknowledgement → Result (List Acknowledgement) Expected → Result (List Acknowledgement) Expected
joined before (Ok more) = Ok (before ++ more)
joined before (Err e) = Err e

pub joined_more : (before : List Acknowledgement) (a : Acknowledgement) (r : Result (List Acknowledgement) Expected) → joined (before ++ a ∷ []) r ≡ joined before (with_first (Some a) r)
joined_more before a (Ok xs) = ap Ok (append_assoc before (a ∷ []) xs)
joined_more before a (Err e) = refl
