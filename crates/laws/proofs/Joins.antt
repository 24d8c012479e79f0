-- What joins the late list in a step stands in its events.
use Rattle.std.proofs.Common.{◌≡◌, ℕ, Bool, true, false, cond, List, [], ◌∷◌, ◌++◌, map, sym, refl, ap, ◌∙◌, append_assoc, Option}
use Rattle.std.proofs.lemmas.List.{append-nil}
use Rattle.sources.specs.declared.source.Standing.{Standing}
use Rattle.sources.specs.Standings.{sample_of}
use Rattle.subscriptions.specs.declared.figures.Figures.{Figures}
use Rattle.subscriptions.specs.declared.figures.Outcome.{Outcome}
use Rattle.subscriptions.specs.declared.figures.Outcome.TheVariants.{Rests, Sends, Joins, Ends}
use Rattle.subscriptions.specs.Facts.{live}
use Rattle.subscriptions.specs.Changes.{runs, counted_down}
use Rattle.subscriptions.specs.Cycle.{cycle}
use Rattle.items.specs.Item.{Item}
use Rattle.items.specs.Keys.{id_of as item_id}
use Rattle.item_table.specs.declared.served.Served.{Served}
use Rattle.item_table.specs.Turn.{any_waits}
use Rattle.retransmission.specs.Rows.{Kept}
use Rattle.model.specs.Steps.{Event, Joined, Started, Sampled, Sent}
use Rattle.model.specs.Messages.{Sending, taken, sent_event, message}
use Rattle.model.specs.Tick.{samples, samplings, Shared, Passed, still_due, onward, messages, acts, asked, counts, passes_live, passes, passes_all}
use Rattle.soundness.proofs.Turns.{Messaged, alive, notified, message_cases}
use Rattle.laws.specs.Laws.{joined_ids}

pub joined_append : (xs ys : List Event) → joined_ids (xs ++ ys) ≡ joined_ids xs ++ joined_ids ys
joined_append [] ys = refl
joined_append (Joined s ∷ xs) ys = ap (λ l. s ∷ l) (joined_append xs ys)
joined_append (Started x ∷ xs) ys = joined_append xs ys
joined_append (Sampled x v ∷ xs) ys = joined_append xs ys
joined_append (Sent x n ∷ xs) ys = joined_append xs ys

-- events with which nothing joins come before others
pub none_joined_before : (xs ys : List Event) → joined_ids xs ≡ [] → joined_ids (xs ++ ys) ≡ joined_ids ys
none_joined_before xs ys e = joined_append xs ys ∙ ap (λ l. l ++ joined_ids ys) e

sent_joins_none : (ws : List Served) → joined_ids (map sent_event ws) ≡ []
sent_joins_none [] = refl
sent_joins_none (w ∷ ws) = sent_joins_none ws

-- with a message nothing joins
pub message_joins_none : (h : ℕ) (f : Figures) (xs : List Item) (kept : List Kept) → joined_ids (message h f xs kept).events ≡ []
message_joins_none h f xs kept = at (message h f xs kept) (message_cases h f xs kept)
  where
    at : (m : Sending) → Messaged h f xs kept m → joined_ids m.events ≡ []
    at m (alive e) = refl
    at m (notified e) = sent_joins_none (taken f xs).sent

-- nor with a sample
pub samplings_join_none : (stands : ℕ → Option Standing) (xs : List Item) → joined_ids (samplings stands xs) ≡ []
samplings_join_none stands [] = refl
samplings_join_none stands (x ∷ xs) = at (samples x) (samplings_join_none stands xs)
  where
    at : (b : Bool) → joined_ids (samplings stands xs) ≡ [] → joined_ids (cond b (Sampled (item_id x) (sample_of (stands x.identity.node)) ∷ samplings stands xs) (samplings stands xs)) ≡ []
    at true e = e
    at false e = e

-- the late list after a turn is the one before, then what joined
abbrev pub Grows : List ℕ → Passed → Type 0
Grows late t = t.shared.late ≡ late ++ joined_ids t.events

pub messages_grow : (hs : List ℕ) (f : Figures) (xs : List Item) (kept : List Kept) (late : List ℕ) → Grows late (messages hs f xs kept late)
messages_grow [] f xs kept late = refl
messages_grow (h ∷ hs) f xs kept late =
    at (still_due (message h f xs kept)) (messages hs (message h f xs kept).figures (message h f xs kept).items (message h f xs kept).kept late)
    (messages_grow hs (message h f xs kept).figures (message h f xs kept).items (message h f xs kept).kept late)
  where
    at : (b : Bool) (t : Passed) → Grows late t → Grows late (onward b (message h f xs kept) hs late t)
    at true t e = e ∙ ap (λ l. late ++ l) (sym (none_joined_before (message h f xs kept).events t.events (message_joins_none h f xs kept)))
    at false t e = sym (append-nil late) ∙ ap (λ l. late ++ l) (sym (none_joined_before (message h f xs kept).events [] (message_joins_none h f xs kept)))

acts_grow : (o : Outcome) (f : Figures) (q : Shared) → Grows q.late (acts o f q)
acts_grow Rests f q = sym (append-nil q.late)
acts_grow Sends f q = messages_grow q.requests f q.items q.kept q.late
acts_grow Joins f q = refl
acts_grow Ends f q = sym (append-nil q.late)

pub passes_grow : (f : Figures) (q : Shared) → Grows q.late (passes f q)
passes_grow f q = at (live f.phase)
  where
    count : (b : Bool) → Grows q.late (counts b f q)
    count true = acts_grow (cycle (asked q) (any_waits f.id q.items) (counted_down f)).outcome (cycle (asked q) (any_waits f.id q.items) (counted_down f)).after q
    count false = sym (append-nil q.late)

    at : (b : Bool) → Grows q.late (passes_live b f q)
    at true = count (runs f)
    at false = sym (append-nil q.late)

pub all_grow : (fs : List Figures) (q : Shared) → (passes_all fs q).shared.late ≡ q.late ++ joined_ids (passes_all fs q).events
all_grow [] q = sym (append-nil q.late)
all_grow (f ∷ fs) q =
    let t = passes f q in
    let p = passes_all fs t.shared in
    all_grow fs t.shared
    ∙ ap (λ l. l ++ joined_ids p.events) (passes_grow f q)
    ∙ append_assoc q.late (joined_ids t.events) (joined_ids p.events)
    ∙ ap (λ l. q.late ++ l) (sym (joined_append t.events p.events))
