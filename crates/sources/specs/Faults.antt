-- The number, layer, place and name of each source fault.
use Rattle.std.specs.Prelude.{ℕ, List, codes}
use Rattle.values.specs.declared.fault.Layer.TheVariants as layer
use Rattle.values.specs.declared.fault.Refusal.{Refusal}
use Rattle.sources.specs.declared.fault.SourceFault.{SourceFault}
use Rattle.sources.specs.declared.fault.SourceFault.TheVariants.{TableFull, TypeMismatch, OutOfRange}

abbrev pub source_refusal : SourceFault → Refusal
source_refusal (TableFull p) = record { number = 14; layer = layer.Source; place = p }
source_refusal (TypeMismatch p) = record { number = 15; layer = layer.Source; place = p }
source_refusal (OutOfRange p) = record { number = 16; layer = layer.Source; place = p }

abbrev pub source_fault_name : SourceFault → List ℕ
source_fault_name (TableFull p) = codes "table_full"
source_fault_name (TypeMismatch p) = codes "Bad_TypeMismatch"
source_fault_name (OutOfRange p) = codes "Bad_OutOfRange"
