-- Entries set one after the other.
use Rattle.std.proofs.Common.{◌≡◌, ◌+◌, ◌≤◌, List, ◌++◌, length, drop, ap, ◌∙◌, zero-add, arith}
use lib.Seq.{sets, sets-eq}
use Rattle.item_table.specs.Turn.{over}

-- from the front on
pub sets_over : {X : Type 0} (xs old : List X) → length xs ≤ length old → sets old 0 xs ≡ over xs old
sets_over xs old h =
    let k : 0 + length xs ≤ length old = omega arith in
    sets-eq xs old 0 k ∙ ap (λ i. xs ++ drop i old) (zero-add (length xs))
