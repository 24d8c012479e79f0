-- Every node that has a row shows a number of days.
use Rattle.std.proofs.Common.{◌≡◌, ℕ, zero, suc, ◌<◌, true, List, [], ◌∷◌, length, get_or, is_some, Some, None, Option, sym, refl, true≢false, arith}
use Rattle.std.proofs.ByRecursion.{All-from_get_or}
use Rattle.fifo.specs.Lists.{lookup}
use Rattle.sources.specs.declared.rows.Expiry.{Expiry}
use Rattle.sources.specs.declared.certificates.Certificates.{Certificates}
use Rattle.sources.specs.Rows.{node_of_expiry}
use Rattle.sources.specs.Certificates.{certificate_rows, today_of, standing_of_expiry}
use Rattle.renewals.specs.Report.{ShowsDays, standing_at, AllShowDays}

module _ {X : Type 0} (f : X → ℕ) where
  -- the key of an element is found
  found : (xs : List X) (i : ℕ) (d : X) → i < length xs → is_some (lookup f (f (get_or xs i d)) xs) ≡ true
  found [] i d l = absurd (omega arith)
  found (x ∷ xs) zero d l = grind arith
  found (x ∷ xs) (suc i) d l = let ih = found xs i d (omega arith) in grind arith

shown : (today : ℕ) (o : Option Expiry) → is_some o ≡ true → ShowsDays (standing_of_expiry today o)
shown today None h = absurd (true≢false (sym h))
shown today (Some row) h = refl

-- so does a node that has a row
pub shown_at : (c : Certificates) (i : ℕ) (d : Expiry) → i < length (certificate_rows c) → ShowsDays (standing_at c (get_or (certificate_rows c) i d).node)
shown_at c i d l =
    let rows = certificate_rows c in
    shown (today_of c) (lookup node_of_expiry (get_or rows i d).node rows) (found node_of_expiry rows i d l)

pub all_shown : (c : Certificates) → AllShowDays c
all_shown c =
    let no_row : Expiry = record { node = 0; end_day = 0 } in
    All-from_get_or (λ row. ShowsDays (standing_at c row.node)) (certificate_rows c) no_row (λ i l. shown_at c i no_row l)
