-- The rows of the two sources.
use Rattle.std.specs.Prelude.{ℕ, Bool, nat_le}
use Rattle.values.specs.Kinds.{fitting}
use Rattle.sources.specs.declared.rows.Row.{Row}
use Rattle.sources.specs.declared.rows.Expiry.{Expiry}

abbrev pub node_of_row : Row → ℕ
node_of_row r = r.node

abbrev pub node_of_expiry : Expiry → ℕ
node_of_expiry r = r.node

-- the value is empty or of the row's kind
abbrev pub row_fits : Row → Bool
row_fits r = fitting r.kind r.sample.value

-- a day is at most 1,000,000
abbrev pub day_fits : Expiry → Bool
day_fits r = nat_le r.end_day 1000000
