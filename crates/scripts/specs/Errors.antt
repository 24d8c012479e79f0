-- What a parser answers.
use Rattle.std.specs.Prelude.{◌≡◌, Ok, Err, Result}
use Rattle.scripts.specs.declared.error.ParseError.{ParseError}
use Rattle.scripts.specs.declared.error.ParseError.TheVariants as error
use Rattle.scripts.specs.declared.expected.Expected.{Expected}

-- the answer, as `view` reads it, is the wanted one, unless there was no memory
abbrev pub Answers : {X Y : Type 0} → (X → Y) → Result X ParseError → Result Y Expected → Type 0
Answers view (Ok x) wanted = Ok (view x) ≡ wanted
Answers view (Err (error.Expected e)) wanted = Err e ≡ wanted
Answers view (Err (error.Memory a)) wanted = Unit {0}
