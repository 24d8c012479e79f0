-- The two laws of changes, by the kinds of value.
use Rattle.std.proofs.Common.{◌≡◌, Bool, true, false, cond, not, ◌||◌, eqb, ℤ, pos, negsuc, ◌-ℤ◌, nat_abs, sym, refl, ap, ◌∙◌, arith, eq-eqb}
use lib.Ieee.{Float, lt}
use Rattle.std.specs.Float.{float_is_finite}
use Rattle.std.proofs.lemmas.Bool.Decides.{nat_tests}
use Rattle.std.proofs.lemmas.Int.{ints}
use Rattle.values.specs.declared.value.Value.{Value}
use Rattle.values.specs.declared.value.Value.TheVariants.{Empty, Boolean, Int32, Double}
use Rattle.values.specs.declared.filter.Trigger.{Trigger}
use Rattle.values.specs.declared.filter.Trigger.TheVariants.{Status, StatusValue, StatusValueTimestamp}
use Rattle.values.specs.declared.filter.Deadband.{Deadband}
use Rattle.values.specs.declared.filter.Deadband.TheVariants.{None, Absolute}
use Rattle.values.specs.Beyond.{exactly, NotBelowZero, beyond_int}
use Rattle.values.specs.Filters.{allowed, width, width_of}
use Rattle.values.specs.Change.{int_eq, value_changed, time_changed, triggered}
use Rattle.values.specs.Laws.{NoChangeAgainstItself, OrderDoesNotMatter}
use Rattle.values.proofs.Exact.{turned}
use Rattle.values.specs.Swap.{itself, either}

-- what a checked filter reads for d is not below 0
pub width_not_below : (b : Deadband) (d : Float) → allowed b d ≡ true → NotBelowZero (width b d)
unfolding lt
width_not_below None d h = refl
width_not_below Absolute d h = at (float_is_finite d) (lt d (exactly 0)) h
  where
    at : (f l : Bool) → cond f (not l) false ≡ true → l ≡ false
    at true true e = sym e
    at true false e = refl
    at false true e = sym e
    at false false e = refl

same_int : (z : ℤ) → int_eq z z ≡ true
same_int (pos n) = eq-eqb n n refl
same_int (negsuc n) = eq-eqb n n refl

int_itself : (d : Float) (z : ℤ) → NotBelowZero d → beyond_int d z z ≡ false
int_itself d z h = let e : nat_abs (z -ℤ z) ≡ 0 = omega (arith, ints) in ap (λ n. lt d (exactly n)) e ∙ h

value_itself : (d : Float) (v : Value) → NotBelowZero d → value_changed d v v ≡ false
value_itself d Empty h = refl
value_itself d (Boolean true) h = refl
value_itself d (Boolean false) h = refl
value_itself d (Int32 z) h = int_itself d z h
value_itself d (Double x) h = itself d x

pub changed_itself : NoChangeAgainstItself
changed_itself f s =
    let n : NotBelowZero (width_of f.filter) = width_not_below f.filter.deadband f.filter.deadband_value f.passed in
    rw (eq-eqb s.status s.status refl) (at f.filter.trigger f.filter.deadband (value_itself (width_of f.filter) s.value n))
  where
    time : (b : Deadband) → time_changed b s.time s.time ≡ false
    time None = ap not (same_int s.time)
    time Absolute = refl

    at : (t : Trigger) (b : Deadband) → value_changed (width_of f.filter) s.value s.value ≡ false → triggered t f.filter s s ≡ false
    at Status b e = refl
    at StatusValue b e = e
    at StatusValueTimestamp b e = rw (time f.filter.deadband, e) refl

flip_int : (y z : ℤ) → int_eq y z ≡ int_eq z y
flip_int (pos m) (pos n) = grind (arith, nat_tests)
flip_int (pos m) (negsuc n) = refl
flip_int (negsuc m) (pos n) = refl
flip_int (negsuc m) (negsuc n) = grind (arith, nat_tests)

value_either : (d : Float) (v w : Value) → value_changed d v w ≡ value_changed d w v
value_either d Empty Empty = refl
value_either d Empty (Boolean b) = refl
value_either d Empty (Int32 b) = refl
value_either d Empty (Double b) = refl
value_either d (Boolean a) Empty = refl
value_either d (Boolean true) (Boolean true) = refl
value_either d (Boolean true) (Boolean false) = refl
value_either d (Boolean false) (Boolean true) = refl
value_either d (Boolean false) (Boolean false) = refl
value_either d (Boolean a) (Int32 b) = refl
value_either d (Boolean a) (Double b) = refl
value_either d (Int32 a) Empty = refl
value_either d (Int32 a) (Boolean b) = refl
value_either d (Int32 a) (Int32 b) = turned d b a
value_either d (Int32 a) (Double b) = refl
value_either d (Double a) Empty = refl
value_either d (Double a) (Boolean b) = refl
value_either d (Double a) (Int32 b) = refl
value_either d (Double a) (Double b) = either d a b

pub changed_either : OrderDoesNotMatter
changed_either f s t =
    let e : eqb s.status t.status ≡ eqb t.status s.status = grind (arith, nat_tests) in
    (λ i. not (e i) || at f.filter.trigger i)
  where
    time : (b : Deadband) → time_changed b s.time t.time ≡ time_changed b t.time s.time
    time None = ap not (flip_int s.time t.time)
    time Absolute = refl

    value : value_changed (width_of f.filter) s.value t.value ≡ value_changed (width_of f.filter) t.value s.value
    value = value_either (width_of f.filter) s.value t.value

    at : (g : Trigger) → triggered g f.filter s t ≡ triggered g f.filter t s
    at Status = refl
    at StatusValue = value
    at StatusValueTimestamp = λ i. time f.filter.deadband i || value i
