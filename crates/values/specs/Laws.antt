-- The two laws of changes, under every checked filter.
use Rattle.std.specs.Prelude.{◌≡◌, false}
use Rattle.values.specs.declared.value.Sample.{Sample}
use Rattle.values.specs.declared.checked.CheckedFilter.{CheckedFilter}
use Rattle.values.specs.Change.{changed}

abbrev pub NoChangeAgainstItself : Type 0
NoChangeAgainstItself = (f : CheckedFilter) (s : Sample) → changed f.filter s s ≡ false

abbrev pub OrderDoesNotMatter : Type 0
OrderDoesNotMatter = (f : CheckedFilter) (s t : Sample) → changed f.filter s t ≡ changed f.filter t s
