-- The figures at the edges of what is a change.
use Rattle.std.specs.Prelude.{◌≡◌, ℕ, true, false, ℤ, pos, negsuc, Float}
use Rattle.std.specs.Float.{nan, fin}
use Rattle.values.specs.declared.value.Value.{Value}
use Rattle.values.specs.declared.value.Value.TheVariants.{Int32, Double}
use Rattle.values.specs.declared.value.Sample.{Sample}
use Rattle.values.specs.declared.filter.Trigger.TheVariants.{StatusValue}
use Rattle.values.specs.declared.filter.Deadband.TheVariants.{Absolute}
use Rattle.values.specs.declared.filter.Filter.{Filter}
use Rattle.values.specs.Beyond.{exactly}
use Rattle.values.specs.Change.{changed}

-- a filter with an absolute deadband of d
abbrev pub with_absolute : Float → Filter
with_absolute d = record { trigger = StatusValue; deadband = Absolute; deadband_value = d }

abbrev pub absolute : ℕ → Filter
absolute d = with_absolute (exactly d)

-- a good sample at time 0
abbrev pub good_sample : Value → Sample
good_sample v = record { value = v; status = 0; time = pos 0 }

abbrev pub int : ℤ → Sample
int z = good_sample (Int32 z)

abbrev pub double : Float → Sample
double x = good_sample (Double x)

abbrev pub EdgeFigures : Type 0
EdgeFigures =
    (changed (absolute 10) (int (pos 100)) (int (pos 110)) ≡ false)
    × (changed (absolute 10) (int (pos 100)) (int (pos 111)) ≡ true)
    × (changed (absolute 4294967294) (int (negsuc 2147483647)) (int (pos 2147483647)) ≡ true)
    × (changed (absolute 4294967295) (int (negsuc 2147483647)) (int (pos 2147483647)) ≡ false)
    × (changed (absolute 0) (double (fin false 0 (pos 0))) (double (fin true 0 (pos 0))) ≡ false)
    × (changed (absolute 1000) (double nan) (double (fin false 1 (pos 0))) ≡ true)
