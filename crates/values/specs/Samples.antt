use Rattle.std.specs.Prelude.{ℤ}
use Rattle.values.specs.declared.value.Value.{Value}
use Rattle.values.specs.declared.value.Sample.{Sample}

-- a value with the status Good and a time
abbrev pub good_at : Value → ℤ → Sample
good_at v t = record { value = v; status = 0; time = t }
