-- The items of a list against the events: turns, messages, the pass over the subscriptions, and the sampling pass.
use Rattle.std.proofs.Common.{◌≡◌, ℕ, zero, suc, ◌<◌, Bool, true, false, cond, not, eqb, ltb, List, [], ◌∷◌, ◌++◌, map, Some, None, Option, sym, refl, ap, ◌∙◌, subst, arith}
use Rattle.std.specs.List.{AllByRecursion}
use Rattle.std.specs.Option.{option_map}
use Rattle.fifo.specs.Lists.{none, first, replaced}
use Rattle.values.specs.declared.value.Sample.{Sample}
use Rattle.sources.specs.declared.source.Standing.{Standing}
use Rattle.sources.specs.Standings.{sample_of}
use Rattle.subscriptions.specs.declared.figures.Figures.{Figures}
use Rattle.subscriptions.specs.declared.figures.Outcome.{Outcome}
use Rattle.subscriptions.specs.declared.figures.Outcome.TheVariants.{Rests, Sends, Joins, Ends}
use Rattle.subscriptions.specs.Facts.{live}
use Rattle.subscriptions.specs.Changes.{messaged, runs, counted_down}
use Rattle.subscriptions.specs.Cycle.{cycle}
use Rattle.items.specs.declared.waiting.Waiting.{Waiting}
use Rattle.items.specs.Item.{Item, ticked, noticed, served}
use Rattle.items.specs.Keys.{id_of as item_id}
use Rattle.item_table.specs.declared.served.Served.{Served}
use Rattle.item_table.specs.Rising.{rising_by}
use Rattle.item_table.specs.Table.{belongs, others}
use Rattle.item_table.specs.Turn.{Turns, waits, waits_after, first_by, or_else, next_turn, any_waits, serving, served_by, after_turn, onward, turns}
use Rattle.item_table.proofs.Orders.{both, rising_replaced, rising_kept, ticked_id}
use Rattle.retransmission.specs.Rows.{Kept}
use Rattle.model.specs.Steps.{Event, Sampled, Sent}
use Rattle.model.specs.Messages.{Sending, most_taken, taken, sent_event, by_taken, message}
use Rattle.model.specs.Tick.{Shared, Passed, samples, samplings, still_due, messages, acts, asked, counts, passes_live, passes, passes_all}
use Rattle.model.specs.Tick as tick
use Rattle.soundness.proofs.Members.{none_empty, none_some}
use Rattle.soundness.proofs.Entries.{some_same, all_passing}
use Rattle.soundness.proofs.Subs.{all_both, others_replaced, rising_above, rising_distinct}
use Rattle.laws.specs.Laws.{Since, only_if, heard_of, since_start}
use Rattle.laws.proofs.Tracked.{Tracked, sampled_now, sent_now, this, another, tracked_served, tracked_ticked}

-- what is known of each id after more events
abbrev pub after : (ℕ → Since) → List Event → ℕ → Since
after known es id = since_start id (known id) es

since_append : (id : ℕ) (t : Since) (es fs : List Event) → since_start id (since_start id t es) fs ≡ since_start id t (es ++ fs)
since_append id t [] fs = refl
since_append id t (e ∷ es) fs = since_append id (heard_of id t e) es fs

pub after_append : (known : ℕ → Since) (es fs : List Event) → after (after known es) fs ≡ after known (es ++ fs)
after_append known es fs = λ i id. since_append id (known id) es fs i

-- each item with what is known of its id
abbrev pub Follows : (ℕ → Since) → List Item → Type 0
Follows known xs = AllByRecursion (λ x. Tracked x (known (item_id x))) xs

-- the same, by rising id
pub record Following (known : ℕ → Since) (xs : List Item) : Type 0 where
  pub rising : rising_by item_id 0 xs ≡ true
  pub each : Follows known xs

-- one item is replaced, and of the other ids the same is known
pub follows_replaced : (known more : ℕ → Since) (y : Item) (xs : List Item) → rising_by item_id 0 xs ≡ true → ((j : ℕ) → (j ≡ item_id y → ⊥) → more j ≡ known j) → Tracked y (more (item_id y)) →
    Follows known xs → Follows more (replaced item_id y xs)
follows_replaced known more y xs r o h a =
    others_replaced item_id (λ x. Tracked x (known (item_id x))) (λ x. Tracked x (more (item_id x))) y xs (rising_distinct item_id 0 xs r)
    (λ x g n. subst (Tracked x) (sym (o (item_id x) n)) g)
    a
    h

-- the items of another subscription stay
pub following_others : (known : ℕ → Since) (id : ℕ) (xs : List Item) → Following known xs → Following known (others id xs)
following_others known id xs h =
    record {
      rising = rising_kept item_id (λ x. not (belongs id x)) 0 xs h.rising;
      each = all_passing (λ x. Tracked x (known (item_id x))) (λ x. Tracked x (known (item_id x))) (λ x. not (belongs id x)) (λ x g e. g) xs h.each;
    }

first_all : (P : Item → Type 0) (p : Item → Bool) (xs : List Item) (x : Item) → AllByRecursion P xs → first_by p xs ≡ Some x → P x
first_all P p [] x a e = absurd (none_some e)
first_all P p (y ∷ xs) x a e = at (p y) e (first_all P p xs x a.1)
  where
    at : (b : Bool) → cond b (Some y) (first_by p xs) ≡ Some x → (first_by p xs ≡ Some x → P x) → P x
    at true h ih = subst P (some_same y x h) a.0
    at false h ih = ih h

-- whose turn it is stands in the list
turn_all : (P : Item → Type 0) (s last : ℕ) (xs : List Item) (x : Item) → AllByRecursion P xs → next_turn s last xs ≡ Some x → P x
turn_all P s last xs x a e = at (first_by (waits_after s last) xs) refl e
  where
    at : (o : Option Item) → first_by (waits_after s last) xs ≡ o → or_else o (first_by (waits s) xs) ≡ Some x → P x
    at None q h = first_all P (waits s) xs x a h
    at (Some y) q h = first_all P (waits_after s last) xs x a (q ∙ h)

-- an item is served
turn_following : (known : ℕ → Since) (s last : ℕ) (xs : List Item) (w : Served) → Following known xs → served_by (next_turn s last xs) ≡ Some w →
    Following (after known (sent_event w ∷ [])) (after_turn (next_turn s last xs) xs)
turn_following known s last xs w h e = at (next_turn s last xs) refl e
  where
    goes : (x : Item) (y : Waiting) → Tracked x (known (item_id x)) → first x.waiting ≡ Some y → Following (after known (Sent (item_id x) (noticed x y) ∷ [])) (replaced item_id (served x) xs)
    goes x y t f =
        record {
          rising = rising_replaced item_id 0 (served x) xs ∙ h.rising;
          each = follows_replaced known (after known (Sent (item_id x) (noticed x y) ∷ [])) (served x) xs h.rising
              (λ j n. another (item_id x) j (sent_now y.sample (known j)) (known j) (λ q. n (sym q)))
              (subst (Tracked (served x)) (sym (this (item_id x) (sent_now y.sample (known (item_id x))) (known (item_id x)))) (tracked_served x y (known (item_id x)) f t))
              h.each;
        }

    by : (x : Item) → Tracked x (known (item_id x)) → (o : Option Waiting) → first x.waiting ≡ o → option_map (serving x) (option_map (noticed x) o) ≡ Some w →
        Following (after known (sent_event w ∷ [])) (replaced item_id (served x) xs)
    by x t None f e = absurd (none_some e)
    by x t (Some y) f e = subst (λ u. Following (after known (sent_event u ∷ [])) (replaced item_id (served x) xs)) (some_same (serving x (noticed x y)) w e) (goes x y t f)

    at : (o : Option Item) → next_turn s last xs ≡ o → served_by o ≡ Some w → Following (after known (sent_event w ∷ [])) (after_turn o xs)
    at None q e = absurd (none_some e)
    at (Some x) q e = by x (turn_all (λ z. Tracked z (known (item_id z))) s last xs x h.each q) (first x.waiting) refl e

turns_following : (m : ℕ) (known : ℕ → Since) (s last : ℕ) (xs : List Item) → Following known xs → Following (after known (map sent_event (turns m s last xs).sent)) (turns m s last xs).items
turns_following zero known s last xs h = h
turns_following (suc m) known s last xs h =
    let next = after_turn (next_turn s last xs) xs in
    at (served_by (next_turn s last xs)) refl (λ w g. turns_following m (after known (sent_event w ∷ [])) s w.id next g)
  where
    more : ℕ → Turns
    more id = turns m s id (after_turn (next_turn s last xs) xs)

    at : (o : Option Served) → served_by (next_turn s last xs) ≡ o →
        ((w : Served) → Following (after known (sent_event w ∷ [])) (after_turn (next_turn s last xs) xs) → Following (after (after known (sent_event w ∷ [])) (map sent_event (more w.id).sent)) (more w.id).items) →
        Following (after known (map sent_event (onward last xs o (λ id. turns m s id (after_turn (next_turn s last xs) xs))).sent)) (onward last xs o (λ id. turns m s id (after_turn (next_turn s last xs) xs))).items
    at None e ih = h
    at (Some w) e ih = ih w (turn_following known s last xs w h e)

pub message_following : (known : ℕ → Since) (n : ℕ) (f : Figures) (xs : List Item) (kept : List Kept) → Following known xs → Following (after known (message n f xs kept).events) (message n f xs kept).items
message_following known n f xs kept h = at (none (taken f xs).sent) refl (turns_following (most_taken f) known f.id f.served xs h)
  where
    at : (b : Bool) → none (taken f xs).sent ≡ b → Following (after known (map sent_event (taken f xs).sent)) (taken f xs).items →
        Following (after known (by_taken b n (messaged f) (taken f xs) kept).events) (by_taken b n (messaged f) (taken f xs) kept).items
    at true e g = subst (λ ws. Following (after known (map sent_event ws)) (taken f xs).items) (none_empty (taken f xs).sent e) g
    at false e g = g

-- one after the other
both_following : (known : ℕ → Since) (es fs : List Event) (xs : List Item) → Following (after (after known es) fs) xs → Following (after known (es ++ fs)) xs
both_following known es fs xs h = subst (λ k. Following k xs) (after_append known es fs) h

messages_following : (hs : List ℕ) (known : ℕ → Since) (f : Figures) (xs : List Item) (kept : List Kept) (late : List ℕ) → Following known xs →
    Following (after known (messages hs f xs kept late).events) (messages hs f xs kept late).shared.items
messages_following [] known f xs kept late h = record { rising = h.rising; each = h.each }
messages_following (n ∷ hs) known f xs kept late h =
    let m = message n f xs kept in
    let g = message_following known n f xs kept h in
    at (still_due m) m g (messages hs m.figures m.items m.kept late) (messages_following hs (after known m.events) m.figures m.items m.kept late g)
  where
    at : (b : Bool) (m : Sending) → Following (after known m.events) m.items → (p : Passed) → Following (after (after known m.events) p.events) p.shared.items →
        Following (after known (tick.onward b m hs late p).events) (tick.onward b m hs late p).shared.items
    at true m g p ih = both_following known m.events p.events p.shared.items ih
    at false m g p ih = both_following known m.events [] m.items g

passes_following : (known : ℕ → Since) (f : Figures) (q : Shared) → Following known q.items → Following (after known (passes f q).events) (passes f q).shared.items
passes_following known f q h = at (live f.phase)
  where
    by : (o : Outcome) (g : Figures) → Following (after known (acts o g q).events) (acts o g q).shared.items
    by Rests g = h
    by Sends g = messages_following q.requests known g q.items q.kept q.late h
    by Joins g = record { rising = h.rising; each = h.each }
    by Ends g = following_others known g.id q.items h

    count : (b : Bool) → Following (after known (counts b f q).events) (counts b f q).shared.items
    count true = let g = counted_down f in let c = cycle (asked q) (any_waits g.id q.items) g in by c.outcome c.after
    count false = h

    at : (b : Bool) → Following (after known (passes_live b f q).events) (passes_live b f q).shared.items
    at true = count (runs f)
    at false = h

pub all_following : (known : ℕ → Since) (fs : List Figures) (q : Shared) → Following known q.items → Following (after known (passes_all fs q).events) (passes_all fs q).shared.items
all_following known [] q h = h
all_following known (f ∷ fs) q h =
    let p = passes f q in
    both_following known p.events (passes_all fs p.shared).events (passes_all fs p.shared).shared.items
    (all_following (after known p.events) fs p.shared (passes_following known f q h))

-- an event of an item with a lower id
pub follows_above : (known more : ℕ → Since) (k : ℕ) (xs : List Item) → ((j : ℕ) → (j ≡ k → ⊥) → more j ≡ known j) → AllByRecursion (λ x. k < item_id x) xs → Follows known xs → Follows more xs
follows_above known more k xs o l a =
    all_both (λ x. k < item_id x) (λ x. Tracked x (known (item_id x))) (λ x. Tracked x (more (item_id x))) (λ x b g. subst (Tracked x) (sym (o (item_id x) (λ e. omega arith))) g) xs l a

module _ (stands : ℕ → Option Standing) where
  abbrev shown_to : Item → Sample
  shown_to x = sample_of (stands x.identity.node)

  -- the sampling of items with higher ids
  samplings_above : (k : ℕ) (t : Since) (xs : List Item) → AllByRecursion (λ x. k < item_id x) xs → since_start k t (samplings stands xs) ≡ t
  samplings_above k t [] l = refl
  samplings_above k t (x ∷ xs) l = at (samples x) (samplings_above k t xs l.1) (λ u. samplings_above k u xs l.1)
    where
      at : (b : Bool) → since_start k t (samplings stands xs) ≡ t → ((u : Since) → since_start k u (samplings stands xs) ≡ u) →
          since_start k t (cond b (Sampled (item_id x) (shown_to x) ∷ samplings stands xs) (samplings stands xs)) ≡ t
      at true e ih = let g = l.0 in ih (only_if (eqb (item_id x) k) (sampled_now (shown_to x) t) t) ∙ another (item_id x) k (sampled_now (shown_to x) t) t (λ q. omega arith)
      at false e ih = e

  pub follows_sampled : (b : ℕ) (known : ℕ → Since) (xs : List Item) → rising_by item_id b xs ≡ true → Follows known xs → Follows (after known (samplings stands xs)) (map (ticked stands) xs)
  follows_sampled b known [] r a = tt
  follows_sampled b known (x ∷ xs) r a =
      let c = both (ltb b (item_id x)) (rising_by item_id (item_id x) xs) r in
      let l = rising_above item_id (item_id x) xs c.1 in
      at (samples x) l (tracked_ticked stands x (known (item_id x)) a.0) (λ more g. follows_sampled (item_id x) more xs c.1 g)
    where
      -- what is known of this item, with another name for its id
      here : (es : List Event) (t : Since) → after known es (item_id x) ≡ t → Tracked (ticked stands x) t → Tracked (ticked stands x) (after known es (item_id (ticked stands x)))
      here es t e h = subst (Tracked (ticked stands x)) (sym (ap (after known es) (ticked_id stands x) ∙ e)) h

      at : (s : Bool) → AllByRecursion (λ y. item_id x < item_id y) xs → Tracked (ticked stands x) (cond s (sampled_now (shown_to x) (known (item_id x))) (known (item_id x))) →
          ((more : ℕ → Since) → Follows more xs → Follows (after more (samplings stands xs)) (map (ticked stands) xs)) →
          Follows (after known (cond s (Sampled (item_id x) (shown_to x) ∷ samplings stands xs) (samplings stands xs))) (ticked stands x ∷ map (ticked stands) xs)
      at true l h ih =
          let e : Event = Sampled (item_id x) (shown_to x) in
          let t = sampled_now (shown_to x) (known (item_id x)) in (
            here (e ∷ samplings stands xs) t (samplings_above (item_id x) (heard_of (item_id x) (known (item_id x)) e) xs l ∙ this (item_id x) t (known (item_id x))) h,
            ih (after known (e ∷ []))
                (follows_above known (after known (e ∷ [])) (item_id x) xs (λ j n. another (item_id x) j (sampled_now (shown_to x) (known j)) (known j) (λ q. n (sym q))) l a.1),
          )
      at false l h ih = (here (samplings stands xs) (known (item_id x)) (samplings_above (item_id x) (known (item_id x)) xs l) h, ih known a.1)
