-- The process image as a list of rows.
use Rattle.std.specs.Prelude.{◌≡◌, ℕ, cond, List, Some, None, Ok, Err, Option, Result, ◌==◌}
use Rattle.values.specs.declared.value.Kind.{Kind}
use Rattle.values.specs.declared.value.Sample.{Sample}
use Rattle.values.specs.Kinds.{kind_of, fitting}
use Rattle.fifo.specs.Lists.{lookup}
use Rattle.fifo.specs.Bounded.{items}
use Rattle.sources.specs.declared.fault.SourceFault.{SourceFault}
use Rattle.sources.specs.declared.fault.SourceFault.TheVariants.{TableFull, TypeMismatch}
use Rattle.sources.specs.declared.rows.Row.{Row}
use Rattle.sources.specs.declared.source.Standing.{Standing}
use Rattle.sources.specs.declared.image.ProcessImage.{ProcessImage}
use Rattle.sources.specs.Rows.{node_of_row}
use Rattle.sources.specs.Table.{has_room, put}

abbrev pub image_rows : ProcessImage → List Row
image_rows s = items s.rows

-- nothing has changed, places that are not in use included
abbrev pub Unchanged : ProcessImage → ProcessImage → Type 0
Unchanged s t = t.rows ≡ s.rows

abbrev pub standing_of_row : Option Row → Option Standing
standing_of_row None = None
standing_of_row (Some r) = Some (record { kind = r.kind; sample = r.sample })

-- the node's row
abbrev pub image_stands : List Row → ℕ → Option Standing
image_stands rows n = standing_of_row (lookup node_of_row n rows)

-- the kind with the code, where the value is empty or of that kind
abbrev pub fitting_kind : Option Kind → Sample → Option Kind
fitting_kind None s = None
fitting_kind (Some k) s = cond (fitting k s.value) (Some k) None

abbrev pub typed : Option Kind → ℕ → Sample → Result Row SourceFault
typed None n s = Err (TypeMismatch n)
typed (Some k) n s = Ok (record { node = n; kind = k; sample = s })

-- the row that a write makes, or why it is refused
abbrev pub writing : List Row → ℕ → ℕ → Sample → Result Row SourceFault
writing rows n code s = cond (has_room node_of_row n rows) (typed (fitting_kind (kind_of code) s) n s) (Err (TableFull n))

-- what a writing call answers
abbrev pub answer : {X : Type 0} → Result X SourceFault → Result (Unit {0}) SourceFault
answer (Ok x) = Ok tt
answer (Err e) = Err e

-- the rows after a writing call
abbrev pub rows_after : {X : Type 0} → (X → ℕ) → Result X SourceFault → List X → List X
rows_after f (Ok x) rows = put f x rows
rows_after f (Err e) rows = rows

-- the row's node stands at what the row says, every other as it was
abbrev pub stands_with : Row → ℕ → Option Standing → Option Standing
stands_with r n before = cond (r.node == n) (standing_of_row (Some r)) before

-- what a node stands at after a write
abbrev pub stands_after_write : Result Row SourceFault → ℕ → Option Standing → Option Standing
stands_after_write (Ok r) n before = stands_with r n before
stands_after_write (Err e) n before = before
