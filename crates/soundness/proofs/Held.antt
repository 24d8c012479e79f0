-- The items and the kept messages of the live subscriptions, apart from a state.
use Rattle.std.proofs.Common.{◌≡◌, ℕ, zero, suc, ◌+◌, ◌<◌, ◌≤◌, Bool, true, false, cond, not, ltb, List, [], ◌∷◌, ◌++◌, map, length, Some, None, Option, sym, refl, ◌∙◌, subst, arith}
use Rattle.std.specs.List.{AllByRecursion}
use Rattle.std.proofs.ByRecursion.{All-weaker, All-push}
use Rattle.std.proofs.lemmas.List.{length-map, length_push}
use Rattle.std.proofs.lemmas.Bool.{lt-ltb, eqb-false, not-true}
use Rattle.fifo.specs.Lists.{lookup, replaced, without}
use Rattle.sources.specs.declared.source.Standing.{Standing}
use Rattle.items.specs.Item.{Item, ticked, served}
use Rattle.items.specs.Keys.{id_of as item_id}
use Rattle.item_table.specs.declared.served.Served.{Served}
use Rattle.item_table.specs.Rising.{rising_by}
use Rattle.item_table.specs.Table.{all_below, belongs, of_subscription, item_in, others}
use Rattle.item_table.specs.Turn.{waits, waits_after, first_by, or_else, next_turn, served_by, after_turn, onward, turns}
use Rattle.item_table.proofs.Orders.{join, rising_replaced, rising_without, rising_kept, rising_map, rising_push, ticked_id}
use Rattle.retransmission.specs.Rows.{Kept, subscription_of}
use Rattle.model.specs.State.{State}
use Rattle.model.specs.Sound.{In, Within, live_ids, Newest, Fitting, Monitored, KeptMessages, Sound}
use Rattle.soundness.proofs.Members.{drops, in_without, none_some}
use Rattle.soundness.proofs.Entries.{some_same, all_both, all_mapped, all_passing, length_passing}
use Rattle.soundness.proofs.Subs.{lookup_all, all_replaced, all_without, length_replaced, length_without}
use Rattle.soundness.proofs.Goods.{Good, good_served, good_ticked}
use Rattle.soundness.proofs.Kept.{Rows, rows_without}

-- at most 32 items by rising id
pub record Items (n : ℕ) (ids : List ℕ) (xs : List Item) : Type 0 where
  pub few : length xs ≤ 32
  pub rising : rising_by item_id 0 xs ≡ true
  pub each : AllByRecursion (Good n ids) xs

module _ (n : ℕ) (ids : List ℕ) (xs : List Item) (h : Items n ids xs) where
  pub items_weaker : (n' : ℕ) (ids' : List ℕ) → n ≤ n' → Within ids ids' → Items n' ids' xs
  items_weaker n' ids' l w =
      record {
        few = h.few;
        rising = h.rising;
        each = All-weaker (Good n ids) (Good n' ids') (λ x g. let b = g.0 in (omega arith, w x.identity.subscription g.1, g.2, g.3)) xs h.each;
      }

  pub items_replaced : (y : Item) → Good n ids y → Items n ids (replaced item_id y xs)
  items_replaced y g =
      record {
        few = let l = length_replaced item_id y xs in let f = h.few in omega arith;
        rising = rising_replaced item_id 0 y xs ∙ h.rising;
        each = all_replaced item_id (Good n ids) y xs h.each g;
      }

  pub items_without : (k : ℕ) → Items n ids (without item_id k xs)
  items_without k =
      record {
        few = let l = length_without item_id k xs in let f = h.few in omega arith;
        rising = rising_without item_id 0 k xs h.rising;
        each = all_without item_id (Good n ids) k xs h.each;
      }

  pub items_others : (id : ℕ) → Items n (drops id ids) (others id xs)
  items_others id =
      record {
        few = let l = length_passing (λ x. not (belongs id x)) xs in let f = h.few in omega arith;
        rising = rising_kept item_id (λ x. not (belongs id x)) 0 xs h.rising;
        each = all_passing (Good n ids) (Good n (drops id ids)) (λ x. not (belongs id x)) stays xs h.each;
      }
    where
      stays : (x : Item) → Good n ids x → not (belongs id x) ≡ true → Good n (drops id ids) x
      stays x g e = (g.0, in_without x.identity.subscription id ids (eqb-false x.identity.subscription id (not-true (belongs id x) e)) g.1, g.2, g.3)

  pub items_ticked : (stands : ℕ → Option Standing) → Items n ids (map (ticked stands) xs)
  items_ticked stands =
      record {
        few = let l = length-map xs (ticked stands) in let f = h.few in omega arith;
        rising = rising_map item_id (ticked stands) (ticked_id stands) 0 xs ∙ h.rising;
        each = all_mapped (Good n ids) (Good n ids) (ticked stands) (good_ticked n ids stands) xs h.each;
      }

  pub item_good : (k : ℕ) (x : Item) → lookup item_id k xs ≡ Some x → Good n ids x
  item_good k x e = lookup_all item_id (Good n ids) k xs x h.each e

pub below_all : (n : ℕ) (xs : List Item) → AllByRecursion (λ x. item_id x < n) xs → all_below n xs ≡ true
below_all n [] a = refl
below_all n (x ∷ xs) a = join (ltb (item_id x) n) (all_below n xs) (lt-ltb (item_id x) n a.0) (below_all n xs a.1)

-- a new item takes the id n
pub items_push : (n : ℕ) (ids : List ℕ) (xs : List Item) (y : Item) → Items n ids xs → length xs < 32 → 1 ≤ n → item_id y ≡ n → Good (n + 1) ids y → Items (n + 1) ids (xs ++ y ∷ [])
items_push n ids xs y h l one e g =
    let below = All-weaker (Good n ids) (λ x. item_id x < n) (λ x g. g.0) xs h.each in
    record {
      few = let k = length_push xs y in omega arith;
      rising = rising_push 0 y xs h.rising (omega arith) (subst (λ k. all_below k xs ≡ true) (sym e) (below_all n xs below));
      each = All-push (Good (n + 1) ids) xs y (items_weaker n ids xs h (n + 1) ids (omega arith) (λ k i. i)).each g;
    }

-- the item that a call names
pub item_found : (id k : ℕ) (xs : List Item) (x : Item) → item_in id k xs ≡ Some x → lookup item_id k xs ≡ Some x
item_found id k xs x e = at (lookup item_id k xs) e
  where
    by : (b : Bool) (y : Item) → cond b (Some y) None ≡ Some x → Some y ≡ Some x
    by true y h = h
    by false y h = absurd (none_some h)

    at : (o : Option Item) → of_subscription id o ≡ Some x → o ≡ Some x
    at None h = absurd (none_some h)
    at (Some y) h = by (belongs id y) y h

first_all : (P : Item → Type 0) (p : Item → Bool) (xs : List Item) (x : Item) → AllByRecursion P xs → first_by p xs ≡ Some x → P x
first_all P p [] x a e = absurd (none_some e)
first_all P p (y ∷ xs) x a e = at (p y) e (first_all P p xs x a.1)
  where
    at : (b : Bool) → cond b (Some y) (first_by p xs) ≡ Some x → (first_by p xs ≡ Some x → P x) → P x
    at true h ih = subst P (some_same y x h) a.0
    at false h ih = ih h

-- whose turn it is stands in the list
turn_all : (P : Item → Type 0) (s last : ℕ) (xs : List Item) (x : Item) → AllByRecursion P xs → next_turn s last xs ≡ Some x → P x
turn_all P s last xs x a e = at (first_by (waits_after s last) xs) refl e
  where
    at : (o : Option Item) → first_by (waits_after s last) xs ≡ o → or_else o (first_by (waits s) xs) ≡ Some x → P x
    at None q h = first_all P (waits s) xs x a h
    at (Some y) q h = first_all P (waits_after s last) xs x a (q ∙ h)

turn_items : (n : ℕ) (ids : List ℕ) (s last : ℕ) (xs : List Item) → Items n ids xs → Items n ids (after_turn (next_turn s last xs) xs)
turn_items n ids s last xs h = at (next_turn s last xs) refl
  where
    at : (o : Option Item) → next_turn s last xs ≡ o → Items n ids (after_turn o xs)
    at None e = h
    at (Some x) e = items_replaced n ids xs h (served x) (good_served n ids x (turn_all (Good n ids) s last xs x h.each e))

-- several turns
pub items_turns : (n : ℕ) (ids : List ℕ) (m s last : ℕ) (xs : List Item) → Items n ids xs → Items n ids (turns m s last xs).items
items_turns n ids zero s last xs h = h
items_turns n ids (suc m) s last xs h = at (served_by (next_turn s last xs)) (λ id. items_turns n ids m s id (after_turn (next_turn s last xs) xs) (turn_items n ids s last xs h))
  where
    at : (o : Option Served) → ((id : ℕ) → Items n ids (turns m s id (after_turn (next_turn s last xs) xs)).items) → Items n ids (onward last xs o (λ id. turns m s id (after_turn (next_turn s last xs) xs))).items
    at None ih = h
    at (Some w) ih = ih w.id

pub turns_few : (m s last : ℕ) (xs : List Item) → length (turns m s last xs).sent ≤ m
turns_few zero s last xs = omega arith
turns_few (suc m) s last xs = at (served_by (next_turn s last xs)) (λ id. turns_few m s id (after_turn (next_turn s last xs) xs))
  where
    at : (o : Option Served) → ((id : ℕ) → length (turns m s id (after_turn (next_turn s last xs) xs)).sent ≤ m) → length (onward last xs o (λ id. turns m s id (after_turn (next_turn s last xs) xs))).sent ≤ suc m
    at None ih = omega arith
    at (Some w) ih = let k = ih w.id in omega arith

-- the items and the rows of the live subscriptions with these ids
pub record Held (n : ℕ) (ids : List ℕ) (xs : List Item) (kept : List Kept) : Type 0 where
  pub items : Items n ids xs
  pub rows : Rows ids kept

-- of a state
abbrev pub HeldBy : State → Type 0
HeldBy s = Held s.next (live_ids s.subscriptions) s.items s.kept

pub held_ids : (n : ℕ) (ids ids' : List ℕ) (xs : List Item) (kept : List Kept) → ids' ≡ ids → Held n ids xs kept → Held n ids' xs kept
held_ids n ids ids' xs kept e h = subst (λ l. Held n l xs kept) (sym e) h

-- all of one subscription goes
pub held_dropped : (n : ℕ) (ids : List ℕ) (xs : List Item) (kept : List Kept) (id : ℕ) → Held n ids xs kept → Held n (drops id ids) (others id xs) (without subscription_of id kept)
held_dropped n ids xs kept id h = record { items = items_others n ids xs h.items id; rows = rows_without ids kept id h.rows }

pub held : (s : State) → Monitored s → KeptMessages s → HeldBy s
held s m k =
    record {
      items = record {
        few = m.few;
        rising = m.rising;
        each = All-weaker _ (Good s.next (live_ids s.subscriptions)) (λ x g. (g.0.0, g.0.1, g.1.0, g.1.1)) s.items
            (all_both (λ x. (item_id x < s.next) × In x.identity.subscription (live_ids s.subscriptions)) (λ x. Newest x × Fitting x) s.items
            (all_both (λ x. item_id x < s.next) (λ x. In x.identity.subscription (live_ids s.subscriptions)) s.items m.below m.owned)
            (all_both Newest Fitting s.items m.newest m.fitting));
      };
      rows = record { order = k.rows; retained = k.retained };
    }

pub held_sound : (s : State) → Sound s → HeldBy s
held_sound s h = held s h.monitored h.retained

pub monitored_held : (s : State) → HeldBy s → Monitored s
monitored_held s h =
    let ids = live_ids s.subscriptions in
    let a = h.items.each in
    record {
      few = h.items.few;
      rising = h.items.rising;
      below = All-weaker (Good s.next ids) (λ x. item_id x < s.next) (λ x g. g.0) s.items a;
      owned = All-weaker (Good s.next ids) (λ x. In x.identity.subscription ids) (λ x g. g.1) s.items a;
      newest = All-weaker (Good s.next ids) Newest (λ x g. g.2) s.items a;
      fitting = All-weaker (Good s.next ids) Fitting (λ x g. g.3) s.items a;
    }

pub kept_held : (s : State) → HeldBy s → KeptMessages s
kept_held s h = record { rows = h.rows.order; retained = h.rows.retained }
