-- Filters: codes, and which deadband values are allowed.
use Rattle.std.specs.Prelude.{ℕ, Bool, true, false, cond, not, Option, ◌==◌, Float}
use Rattle.std.specs.Float.Ieee.{lt}
use Rattle.std.specs.Float.{float_is_finite}
use Rattle.std.specs.declared.option.Option.TheVariants as option
use Rattle.values.specs.declared.value.Kind.{Kind}
use Rattle.values.specs.declared.value.Kind.TheVariants as kind
use Rattle.values.specs.declared.filter.Trigger.{Trigger}
use Rattle.values.specs.declared.filter.Trigger.TheVariants.{Status, StatusValue, StatusValueTimestamp}
use Rattle.values.specs.declared.filter.Deadband.{Deadband}
use Rattle.values.specs.declared.filter.Deadband.TheVariants.{None, Absolute}
use Rattle.values.specs.declared.filter.Filter.{Filter}
use Rattle.values.specs.Beyond.{exactly}

abbrev pub trigger_of : ℕ → Option Trigger
trigger_of n = cond (n == 0) (option.Some Status) (cond (n == 1) (option.Some StatusValue) (cond (n == 2) (option.Some StatusValueTimestamp) option.None))

abbrev pub deadband_of : ℕ → Option Deadband
deadband_of n = cond (n == 0) (option.Some None) (cond (n == 1) (option.Some Absolute) option.None)

-- a Boolean has no distance
abbrev pub measured : Deadband → Kind → Bool
measured None k = true
measured Absolute kind.Boolean = false
measured Absolute kind.Int32 = true
measured Absolute kind.Double = true

-- an absolute deadband value is finite and not below 0; with type None any value stands, and none is read
abbrev pub allowed : Deadband → Float → Bool
allowed None d = true
allowed Absolute d = cond (float_is_finite d) (not (lt d (exactly 0))) false

-- the deadband value that counts: type None reads it as 0
abbrev pub width : Deadband → Float → Float
width None d = exactly 0
width Absolute d = d

abbrev pub width_of : Filter → Float
width_of f = width f.deadband f.deadband_value
