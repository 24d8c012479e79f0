-- The Doubles that are written by name.
use Rattle.std.proofs.Common.{◌≡◌, true, false, refl}
use lib.Ieee.{nan, inf, binary64, of_bits}

pub nan_is : of_bits binary64 9221120237041090560 ≡ nan
unfolding of_bits
nan_is = refl

pub inf_is : of_bits binary64 9218868437227405312 ≡ inf false
unfolding of_bits
inf_is = refl

pub minus_inf_is : of_bits binary64 18442240474082181120 ≡ inf true
unfolding of_bits
minus_inf_is = refl
