-- What is a change between two samples under a filter.
use Rattle.std.specs.Prelude.{Bool, true, false, not, ◌||◌, ℤ, pos, negsuc, ◌==◌, Float}
use Rattle.std.specs.Bool.{beq}
use Rattle.values.specs.declared.value.Value.{Value}
use Rattle.values.specs.declared.value.Value.TheVariants.{Empty, Boolean, Int32, Double}
use Rattle.values.specs.declared.value.Sample.{Sample}
use Rattle.values.specs.declared.filter.Trigger.{Trigger}
use Rattle.values.specs.declared.filter.Trigger.TheVariants.{Status, StatusValue, StatusValueTimestamp}
use Rattle.values.specs.declared.filter.Deadband.{Deadband}
use Rattle.values.specs.declared.filter.Deadband.TheVariants.{None, Absolute}
use Rattle.values.specs.declared.filter.Filter.{Filter}
use Rattle.values.specs.Beyond.{beyond_int, beyond_double}
use Rattle.values.specs.Filters.{width_of}

abbrev pub int_eq : ℤ → ℤ → Bool
int_eq (pos m) (pos n) = m == n
int_eq (pos m) (negsuc n) = false
int_eq (negsuc m) (pos n) = false
int_eq (negsuc m) (negsuc n) = m == n

-- a different kind, an empty value against a filled one, unequal Booleans, numbers beyond d
abbrev pub value_changed : Float → Value → Value → Bool
value_changed d Empty Empty = false
value_changed d (Boolean a) (Boolean b) = not (beq a b)
value_changed d (Int32 a) (Int32 b) = beyond_int d a b
value_changed d (Double a) (Double b) = beyond_double d a b
value_changed d Empty (Boolean b) = true
value_changed d Empty (Int32 b) = true
value_changed d Empty (Double b) = true
value_changed d (Boolean a) Empty = true
value_changed d (Boolean a) (Int32 b) = true
value_changed d (Boolean a) (Double b) = true
value_changed d (Int32 a) Empty = true
value_changed d (Int32 a) (Boolean b) = true
value_changed d (Int32 a) (Double b) = true
value_changed d (Double a) Empty = true
value_changed d (Double a) (Boolean b) = true
value_changed d (Double a) (Int32 b) = true

-- a different time counts where no deadband is set
abbrev pub time_changed : Deadband → ℤ → ℤ → Bool
time_changed None s t = not (int_eq s t)
time_changed Absolute s t = false

-- what the trigger looks at besides the status
abbrev pub triggered : Trigger → Filter → Sample → Sample → Bool
triggered Status f a b = false
triggered StatusValue f a b = value_changed (width_of f) a.value b.value
triggered StatusValueTimestamp f a b = time_changed f.deadband a.time b.time || value_changed (width_of f) a.value b.value

-- a different status is a change under every trigger
abbrev pub changed : Filter → Sample → Sample → Bool
changed f a b = not (a.status == b.status) || triggered f.trigger f a b
