-- The certificates as a list of rows and today's day.
use Rattle.std.specs.Prelude.{◌≡◌, ℕ, ◌*◌, cond, List, ℤ, pos, ◌-ℤ◌, Some, None, Ok, Err, Option, Result, ◌==◌, nat_lt}
use Rattle.values.specs.declared.value.Kind.TheVariants as kind
use Rattle.values.specs.declared.value.Value.TheVariants.{Int32}
use Rattle.fifo.specs.Lists.{lookup}
use Rattle.fifo.specs.Bounded.{items}
use Rattle.sources.specs.declared.fault.SourceFault.{SourceFault}
use Rattle.sources.specs.declared.fault.SourceFault.TheVariants.{TableFull, OutOfRange}
use Rattle.sources.specs.declared.rows.Expiry.{Expiry}
use Rattle.sources.specs.declared.source.Standing.{Standing}
use Rattle.sources.specs.declared.certificates.Certificates.{Certificates}
use Rattle.sources.specs.Rows.{node_of_expiry}
use Rattle.sources.specs.Table.{has_room}

abbrev pub certificate_rows : Certificates → List Expiry
certificate_rows s = items s.rows

abbrev pub today_of : Certificates → ℕ
today_of s = s.today

-- nothing has changed, places that are not in use included
abbrev pub Unchanged : Certificates → Certificates → Type 0
Unchanged s t = (t.rows ≡ s.rows) × (t.today ≡ s.today)

-- the days left until the end day, below 0 after it
abbrev pub days_left : ℕ → Expiry → ℤ
days_left today r = pos r.end_day -ℤ pos today

-- the days left, good, at the start of today in steps of 100 ns
abbrev pub standing_of_expiry : ℕ → Option Expiry → Option Standing
standing_of_expiry today None = None
standing_of_expiry today (Some r) = Some (record { kind = kind.Int32; sample = record { value = Int32 (days_left today r); status = 0; time = pos (today * 864000000000) } })

abbrev pub certificates_stand : ℕ → List Expiry → ℕ → Option Standing
certificates_stand today rows n = standing_of_expiry today (lookup node_of_expiry n rows)

-- the row that an entry makes, or why it is refused
abbrev pub entering : List Expiry → ℕ → ℕ → Result Expiry SourceFault
entering rows n day = cond (has_room node_of_expiry n rows) (cond (nat_lt 1000000 day) (Err (OutOfRange n)) (Ok (record { node = n; end_day = day }))) (Err (TableFull n))

-- the row's node stands at the row's days left, every other as it was
abbrev pub stands_with : ℕ → Expiry → ℕ → Option Standing → Option Standing
stands_with today r n before = cond (r.node == n) (standing_of_expiry today (Some r)) before

-- what a node stands at after an entry
abbrev pub stands_after_entry : ℕ → Result Expiry SourceFault → ℕ → Option Standing → Option Standing
stands_after_entry today (Ok r) n before = stands_with today r n before
stands_after_entry today (Err e) n before = before

-- the new day, or why it is refused
abbrev pub setting_today : ℕ → Result ℕ SourceFault
setting_today day = cond (nat_lt 1000000 day) (Err (OutOfRange 0)) (Ok day)

abbrev pub today_after : Result ℕ SourceFault → ℕ → ℕ
today_after (Ok day) today = day
today_after (Err e) today = today
