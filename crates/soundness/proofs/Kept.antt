-- The kept messages of a subscription after a change.
use Rattle.std.proofs.Common.{◌≡◌, ℕ, ◌<◌, ◌≤◌, Bool, true, false, cond, eqb, ltb, List, [], ◌∷◌, ◌++◌, map, length, is_some, Some, None, Option, sym, refl, ap, ◌∙◌, subst, arith}
use Rattle.std.specs.List.{AllByRecursion}
use Rattle.std.proofs.ByRecursion.{All-push}
use Rattle.std.proofs.lemmas.List.{length_push, length-map, map_push}
use Rattle.std.proofs.lemmas.Bool.{eqb-false, lt-ltb}
use Rattle.fifo.specs.Lists.{rest, lookup, replaced, without}
use Rattle.messages.specs.declared.message.Message.{Message}
use Rattle.messages.specs.Messages.{number_of}
use Rattle.retransmission.specs.Kept.{room_for, keeping}
use Rattle.retransmission.specs.Rows.{Kept, row_with, subscription_of, messages_of, kept_of, opening, keeping_for, acknowledging}
use Rattle.model.specs.Sound.{In, Distinct, Retained}
use Rattle.soundness.proofs.Members.{drops, in_rest, distinct_rest, distinct_push, distinct_without, out_without, length_drops}
use Rattle.soundness.proofs.Subs.{lookup_all, all_replaced, all_without, keys_replaced, keys_without, length_without}
use Rattle.soundness.proofs.Entries.{found_in, not_found}
use Rattle.soundness.proofs.Waiting.{length_rest}

-- a message carries 1 to 16 notifications
abbrev pub Filled : Message → Type 0
Filled m = (1 ≤ m.count) × (m.count ≤ 16)

-- messages kept of one subscription
abbrev pub Stored : List Message → Type 0
Stored ms = (length ms ≤ 8) × Distinct (map number_of ms) × AllByRecursion Filled ms

pub stored_without : (n : ℕ) (ms : List Message) → Stored ms → Stored (without number_of n ms)
stored_without n ms h =
    let l = length_without number_of n ms in
    let k = h.0 in (
      omega arith,
      subst Distinct (sym (keys_without number_of n ms)) (distinct_without n (map number_of ms) h.1),
      all_without number_of Filled n ms h.2,
    )

keys_rest : (ms : List Message) → map number_of (rest ms) ≡ rest (map number_of ms)
keys_rest [] = refl
keys_rest (m ∷ ms) = refl

all_rest : (ms : List Message) → AllByRecursion Filled ms → AllByRecursion Filled (rest ms)
all_rest [] a = a
all_rest (m ∷ ms) a = a.1

-- there is room for one more, and none has its number
pub record Roomy (n : ℕ) (ms : List Message) : Type 0 where
  pub short : length ms < 8
  pub once : Distinct (map number_of ms)
  pub new : In n (map number_of ms) → ⊥
  pub filled : AllByRecursion Filled ms

roomy : (n : ℕ) (ms : List Message) → Stored ms → Roomy n (room_for n ms)
roomy n ms h = at (is_some (lookup number_of n ms)) refl
  where
    full : (b : Bool) → eqb (length ms) 8 ≡ b → (In n (map number_of ms) → ⊥) → Roomy n (cond b (rest ms) ms)
    full true e o =
        let r = length_rest ms in
        let k = h.0 in
        record {
          short = omega arith;
          once = subst Distinct (sym (keys_rest ms)) (distinct_rest (map number_of ms) h.1);
          new = λ i. o (in_rest n (map number_of ms) (subst (In n) (keys_rest ms) i));
          filled = all_rest ms h.2;
        }
    full false e o =
        let k = h.0 in
        let d = eqb-false (length ms) 8 e in
        record { short = omega arith; once = h.1; new = o; filled = h.2 }

    at : (b : Bool) → is_some (lookup number_of n ms) ≡ b → Roomy n (cond b (without number_of n ms) (cond (eqb (length ms) 8) (rest ms) ms))
    at true e =
        let q = keys_without number_of n ms in
        let c = length_drops n (map number_of ms) (found_in number_of n ms e) in
        let l = length-map ms number_of in
        let l' = length-map (without number_of n ms) number_of in
        let z = ap length q in
        let k = h.0 in
        record {
          short = omega arith;
          once = subst Distinct (sym q) (distinct_without n (map number_of ms) h.1);
          new = λ i. out_without n (map number_of ms) h.1 (subst (In n) q i);
          filled = all_without number_of Filled n ms h.2;
        }
    at false e = full (eqb (length ms) 8) refl (not_found number_of n ms e)

pub stored_keeping : (m : Message) (ms : List Message) → Filled m → Stored ms → Stored (keeping m ms)
stored_keeping m ms f h =
    let r = roomy m.number ms h in
    let l = length_push (room_for m.number ms) m in
    let s = r.short in (
      omega arith,
      subst Distinct (sym (map_push number_of (room_for m.number ms) m)) (distinct_push (map number_of (room_for m.number ms)) m.number r.once r.new),
      All-push Filled (room_for m.number ms) m r.filled f,
    )

-- what is kept of a subscription
pub stored_of : (id : ℕ) (rows : List Kept) → AllByRecursion Retained rows → Stored (kept_of id rows)
stored_of id rows a = at (lookup subscription_of id rows) refl
  where
    at : (o : Option Kept) → lookup subscription_of id rows ≡ o → Stored (messages_of o)
    at None e = (omega arith, tt, tt)
    at (Some row) e = lookup_all subscription_of Retained id rows row a e

-- a row for each id, in order
pub record Rows (ids : List ℕ) (kept : List Kept) : Type 0 where
  pub order : map subscription_of kept ≡ ids
  pub retained : AllByRecursion Retained kept

pub rows_changed : (ids : List ℕ) (kept : List Kept) (id : ℕ) (ms : List Message) → Stored ms → Rows ids kept → Rows ids (replaced subscription_of (row_with id ms) kept)
rows_changed ids kept id ms s r =
    record {
      order = keys_replaced subscription_of (row_with id ms) kept ∙ r.order;
      retained = all_replaced subscription_of Retained (row_with id ms) kept r.retained s;
    }

pub rows_keeping : (ids : List ℕ) (kept : List Kept) (id : ℕ) (m : Message) → Filled m → Rows ids kept → Rows ids (keeping_for id m kept)
rows_keeping ids kept id m f r = rows_changed ids kept id (keeping m (kept_of id kept)) (stored_keeping m (kept_of id kept) f (stored_of id kept r.retained)) r

pub rows_acknowledging : (ids : List ℕ) (kept : List Kept) (id n : ℕ) → Rows ids kept → Rows ids (acknowledging id n kept)
rows_acknowledging ids kept id n r = rows_changed ids kept id (without number_of n (kept_of id kept)) (stored_without n (kept_of id kept) (stored_of id kept r.retained)) r

pub rows_without : (ids : List ℕ) (kept : List Kept) (id : ℕ) → Rows ids kept → Rows (drops id ids) (without subscription_of id kept)
rows_without ids kept id r =
    record { order = keys_without subscription_of id kept ∙ ap (drops id) r.order; retained = all_without subscription_of Retained id kept r.retained }

pub rows_opening : (ids : List ℕ) (kept : List Kept) (id : ℕ) → length ids < 4 → Rows ids kept → Rows (ids ++ id ∷ []) (opening id kept)
rows_opening ids kept id l r =
    let n = length-map kept subscription_of in
    let e = ap length r.order in
    let t : ltb (length kept) 4 ≡ true = lt-ltb (length kept) 4 (omega arith) in
    subst (λ b. Rows (ids ++ id ∷ []) (cond b (kept ++ row_with id [] ∷ []) kept)) (sym t)
    (record {
      order = map_push subscription_of kept (row_with id []) ∙ ap (λ k. k ++ id ∷ []) r.order;
      retained = All-push Retained kept (row_with id []) r.retained (omega arith, tt, tt);
    })
