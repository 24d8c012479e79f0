use Rattle.std.specs.Prelude.{ℕ, List}
use Rattle.fifo.specs.declared.bounded.BoundedList.{BoundedList}
use Rattle.fifo.specs.Bounded as bounded

-- what a bounded list of numbers holds, in order
abbrev pub items : BoundedList ℕ 8 → List ℕ
items b = bounded.items b
