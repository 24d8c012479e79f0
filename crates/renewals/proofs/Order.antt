-- What a sort by days left, then by node, gives.
use Rattle.std.proofs.Common.{◌≡◌, false, List, get_or, Ordering, arith}
use Rattle.std.specs.Cmp.{int_cmp_total, nat_cmp_total, then_total, on_total}
use Rattle.std.specs.Ordering.{is_lt, ordering_then, int_cmp, nat_cmp}
use Rattle.std.specs.List.Sorted.{IsSorted}
use Rattle.std.proofs.lemmas.List.Sorted.{sorted_far, ranks_by}
use Rattle.renewals.specs.declared.report.Remaining.{Remaining}
use Rattle.renewals.specs.Report.{NotBehind, InOrder}

-- by days left, and then by node
abbrev pub compared : Remaining → Remaining → Ordering
compared x y = ordering_then (int_cmp x.days_left y.days_left) (nat_cmp x.node y.node)

not_behind : (x y : Remaining) → is_lt (compared y x) ≡ false → NotBehind x y
not_behind x y e = grind arith

-- the sorted entries, any two of them
pub in_order : (xs : List Remaining) → IsSorted compared xs → InOrder xs
in_order xs up i j d l m =
    not_behind (get_or xs i d) (get_or xs j d)
    (sorted_far (λ x y. is_lt (compared x y)) (ranks_by (then_total (on_total (λ r. r.days_left) int_cmp_total) (on_total (λ r. r.node) nat_cmp_total)) (λ r. r)) xs up i j d l m)
