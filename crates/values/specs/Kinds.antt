-- The kinds of value and their codes.
use Rattle.std.specs.Prelude.{ℕ, Bool, true, false, cond, Some, None, Option, ◌==◌}
use Rattle.values.specs.declared.value.Value.{Value}
use Rattle.values.specs.declared.value.Value.TheVariants as value
use Rattle.values.specs.declared.value.Kind.{Kind}
use Rattle.values.specs.declared.value.Kind.TheVariants as kind

-- the kind with a code; any other number is no kind
abbrev pub kind_of : ℕ → Option Kind
kind_of n = cond (n == 1) (Some kind.Boolean) (cond (n == 6) (Some kind.Int32) (cond (n == 11) (Some kind.Double) None))

-- empty, or of the kind
abbrev pub fitting : Kind → Value → Bool
fitting k value.Empty = true
fitting kind.Boolean (value.Boolean b) = true
fitting kind.Boolean (value.Int32 z) = false
fitting kind.Boolean (value.Double x) = false
fitting kind.Int32 (value.Boolean b) = false
fitting kind.Int32 (value.Int32 z) = true
fitting kind.Int32 (value.Double x) = false
fitting kind.Double (value.Boolean b) = false
fitting kind.Double (value.Int32 z) = false
fitting kind.Double (value.Double x) = true
