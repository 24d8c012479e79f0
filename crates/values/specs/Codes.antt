-- Codes that stand for the values of a type.
use Rattle.std.specs.Prelude.{ℕ, Option, Result}
use Rattle.std.specs.Option.{ok_or}
use Rattle.values.specs.declared.code.UnknownCode.{UnknownCode}

-- what stands for a code, or the code itself where nothing does
abbrev pub known_code : {T : Type 0} → Option T → ℕ → Result T UnknownCode
known_code o n = ok_or o (record { 0 = n })
