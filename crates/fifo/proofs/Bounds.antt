-- How many records a bounded list holds.
use Rattle.std.proofs.Common.{ℕ, ◌≤◌, length, arith, length-take}
use Rattle.fifo.specs.declared.bounded.BoundedList.{BoundedList}
use Rattle.fifo.specs.Bounded.{items}

pub items_fit : {T : Type 0} {N : ℕ} (b : BoundedList T N) → length (items b) ≤ N
items_fit b = omega (arith, length-take b.len b.places, b.fits)
