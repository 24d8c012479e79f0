-- The days left of each node, and what they mean.
use Rattle.std.specs.Prelude.{◌≡◌, ℕ, ◌<◌, ◌≤◌, Bool, true, false, cond, ◌⊎◌, List, map, length, ℤ, pos, negsuc, ◌<ℤ◌, count_by, nat_le, slice_index_or, Option, Some, None}
use Rattle.std.specs.List.{AllByRecursion}
use Rattle.values.specs.declared.value.Value.{Value}
use Rattle.values.specs.declared.value.Value.TheVariants as value
use Rattle.sources.specs.declared.certificates.Certificates.{Certificates}
use Rattle.sources.specs.declared.rows.Expiry.{Expiry}
use Rattle.sources.specs.declared.source.Standing.{Standing}
use Rattle.sources.specs.Certificates.{certificate_rows, today_of, certificates_stand}
use Rattle.renewals.specs.declared.report.Verdict.{Verdict}
use Rattle.renewals.specs.declared.report.Verdict.TheVariants.{Expired, Renew, Valid}
use Rattle.renewals.specs.declared.report.Remaining.{Remaining}
use Rattle.renewals.specs.declared.report.Counts.{Counts}

-- below 0 days the certificate has expired; up to the limit it is to be renewed
abbrev pub verdict_of : ℤ → ℕ → Verdict
verdict_of (negsuc n) limit = Expired
verdict_of (pos n) limit = cond (nat_le n limit) Renew Valid

abbrev pub same_verdict : Verdict → Verdict → Bool
same_verdict Expired Expired = true
same_verdict Expired Renew = false
same_verdict Expired Valid = false
same_verdict Renew Expired = false
same_verdict Renew Renew = true
same_verdict Renew Valid = false
same_verdict Valid Expired = false
same_verdict Valid Renew = false
same_verdict Valid Valid = true

-- whether this is the verdict on the entry
abbrev pub judged : ℕ → Verdict → Remaining → Bool
judged limit wanted entry = same_verdict (verdict_of entry.days_left limit) wanted

-- how many nodes there are, how many are expired, and how many are to be renewed
abbrev pub counts_of : List Remaining → ℕ → Counts
counts_of entries limit = record { nodes = length entries; expired = count_by (judged limit Expired) entries; renew = count_by (judged limit Renew) entries }

-- the days left that a value shows; ShowsDays, below, says that it is a number
abbrev pub days_in : Value → ℤ
days_in value.Empty = pos 0
days_in (value.Boolean b) = pos 0
days_in (value.Int32 days) = days
days_in (value.Double x) = pos 0

abbrev pub days_at : Option Standing → ℤ
days_at None = pos 0
days_at (Some t) = days_in t.sample.value

-- the node is known, and what it shows is a number of days
abbrev pub ShowsDays : Option Standing → Type 0
ShowsDays None = ⊥
ShowsDays (Some t) = t.sample.value ≡ value.Int32 (days_in t.sample.value)

-- what the certificates stand at for a node
abbrev pub standing_at : Certificates → ℕ → Option Standing
standing_at certificates node = certificates_stand (today_of certificates) (certificate_rows certificates) node

-- the entry of a row: its node, with the days left at which the source stands for that node
abbrev pub entry_of : (ℕ → Option Standing) → Expiry → Remaining
entry_of stands row = record { days_left = days_at (stands row.node); node = row.node }

-- an entry for each row
abbrev pub entries_of : Certificates → List Remaining
entries_of certificates = map (entry_of (standing_at certificates)) (certificate_rows certificates)

-- every node with a row shows a number of days
abbrev pub AllShowDays : Certificates → Type 0
AllShowDays certificates = AllByRecursion (λ row. ShowsDays (standing_at certificates row.node)) (certificate_rows certificates)

-- fewer days left, or as many and no higher node
abbrev pub NotBehind : Remaining → Remaining → Type 0
NotBehind x y = (x.days_left <ℤ y.days_left) ⊎ ((x.days_left ≡ y.days_left) × (x.node ≤ y.node))

abbrev pub InOrder : List Remaining → Type 0
InOrder entries = (i j : ℕ) (d : Remaining) → i ≤ j → j < length entries → NotBehind (slice_index_or entries i d) (slice_index_or entries j d)
