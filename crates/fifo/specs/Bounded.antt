use Rattle.std.specs.Prelude.{ℕ, List, take}
use Rattle.fifo.specs.declared.bounded.BoundedList.{BoundedList}

-- what a bounded list holds, in order
abbrev pub items : {T : Type 0} {N : ℕ} → BoundedList T N → List T
items b = take b.len b.places
