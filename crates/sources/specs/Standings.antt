-- What a source stands at for a node, and the sample that it shows.
use Rattle.std.specs.Prelude.{◌≡◌, true, pos, Option, Some, None}
use Rattle.values.specs.declared.value.Sample.{Sample}
use Rattle.values.specs.declared.value.Value.TheVariants.{Empty}
use Rattle.values.specs.Kinds.{fitting}
use Rattle.sources.specs.declared.source.Standing.{Standing}

-- a known value is empty or of its kind
abbrev pub Sound : Option Standing → Type 0
Sound None = Unit {0}
Sound (Some t) = fitting t.kind t.sample.value ≡ true

-- of an unknown node: an empty value, Bad_NodeIdUnknown and time 0
abbrev pub unknown_sample : Sample
unknown_sample = record { value = Empty; status = 0x80340000; time = pos 0 }

abbrev pub sample_of : Option Standing → Sample
sample_of None = unknown_sample
sample_of (Some t) = t.sample
