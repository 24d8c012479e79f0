-- A line of the input, read byte by byte.
use Rattle.std.specs.Prelude.{ℕ, ◌+◌, ◌-◌, ◌*◌, Bool, cond, ◌&&◌, ◌||◌, List, Some, None, fold, Option, Ok, Err, Result, ◌==◌, nat_le, nat_lt}
use Rattle.sources.specs.declared.rows.Expiry.{Expiry}
use Rattle.renewals.specs.declared.line.Unreadable.{Unreadable}
use Rattle.renewals.specs.declared.line.Reading.{Reading}
use Rattle.renewals.specs.declared.line.Reading.TheVariants.{Start, Node, Gap, EndDay, After, Ended}

-- what a line says: nothing, an entry, or something that cannot be read
abbrev pub Line : Type 0
Line = Result (Option Expiry) Unreadable

abbrev pub entry_line : ℕ → ℕ → Line
entry_line node day = Ok (Some (record { node = node; end_day = day }))

-- how far the bytes could be read
abbrev pub State : Type 0
State = Result Reading Unreadable

abbrev pub unreadable : {X : Type 0} → Result X Unreadable
unreadable = Err (record {})

abbrev pub is_digit : ℕ → Bool
is_digit b = nat_le 48 b && nat_le b 57

-- a space or a tab
abbrev pub is_blank : ℕ → Bool
is_blank b = b == 32 || b == 9

-- the number with one more digit, where it is below 2^32
abbrev pub with_digit : ℕ → ℕ → Result ℕ Unreadable
with_digit n d = cond (nat_lt (n * 10 + d) 4294967296) (Ok (n * 10 + d)) unreadable

abbrev pub in_node : Result ℕ Unreadable → State
in_node (Ok n) = Ok (Node n)
in_node (Err e) = Err e

abbrev pub in_end_day : ℕ → Result ℕ Unreadable → State
in_end_day n (Ok d) = Ok (EndDay (record { node = n; end_day = d }))
in_end_day n (Err e) = Err e

abbrev pub on_digit : Reading → ℕ → State
on_digit Start d = Ok (Node d)
on_digit (Node n) d = in_node (with_digit n d)
on_digit (Gap n) d = Ok (EndDay (record { node = n; end_day = d }))
on_digit (EndDay row) d = in_end_day row.node (with_digit row.end_day d)
on_digit (After row) d = unreadable
on_digit (Ended o) d = unreadable

abbrev pub on_blank : Reading → State
on_blank Start = Ok Start
on_blank (Node n) = Ok (Gap n)
on_blank (Gap n) = Ok (Gap n)
on_blank (EndDay row) = Ok (After row)
on_blank (After row) = Ok (After row)
on_blank (Ended o) = unreadable

-- what the line says if it ends here
abbrev pub said : Reading → Line
said Start = Ok None
said (Node n) = unreadable
said (Gap n) = unreadable
said (EndDay row) = Ok (Some row)
said (After row) = Ok (Some row)
said (Ended o) = Ok o

-- a carriage return, after which nothing may come
abbrev pub on_return : Reading → State
on_return Start = Ok (Ended None)
on_return (Node n) = unreadable
on_return (Gap n) = unreadable
on_return (EndDay row) = Ok (Ended (Some row))
on_return (After row) = Ok (Ended (Some row))
on_return (Ended o) = unreadable

abbrev pub step : Reading → ℕ → State
step s b = cond (is_digit b) (on_digit s (b - 48)) (cond (is_blank b) (on_blank s) (cond (b == 13) (on_return s) unreadable))

-- one more byte; what cannot be read stays so
abbrev pub next : State → ℕ → State
next (Ok s) b = step s b
next (Err e) b = Err e

abbrev pub line_of : State → Line
line_of (Ok s) = said s
line_of (Err e) = Err e

abbrev pub reading : List ℕ → Line
reading bytes = line_of (fold next (Ok Start) bytes)
