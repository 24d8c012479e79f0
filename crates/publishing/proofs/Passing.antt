-- The loop over the slots in a tick.
use Rattle.std.proofs.Common.{◌≡◌, ℕ, ◌+◌, ◌-◌, ◌<◌, ◌≤◌, Bool, true, false, List, [], ◌∷◌, ◌++◌, length, get_or, take, drop, set, sym, ap, ◌∙◌, ap₂, append_assoc, arith, length-append, length-set}
use lib.Seq.{sets, sets-eq, length-sets}
use Rattle.std.proofs.lemmas.List.{drop_more, take_more_set, drop-set-lt, take_at, drop_at, length-take-le, length_push, drop-drop}
use Rattle.subscriptions.specs.declared.figures.Figures.{Figures}
use Rattle.subscriptions.specs.declared.figures.Outcome.{Outcome}
use Rattle.subscriptions.specs.declared.figures.Outcome.TheVariants.{Rests, Sends, Joins, Ends}
use Rattle.subscriptions.specs.Facts.{live}
use Rattle.subscriptions.specs.Changes.{joined, counted_down, runs}
use Rattle.subscriptions.specs.Cycle.{cycle}
use Rattle.subscription_table.specs.Slots.{blank}
use Rattle.items.specs.Item.{Item}
use Rattle.item_table.specs.Turn.{any_waits}
use Rattle.retransmission.specs.Rows.{Kept}
use Rattle.messages.specs.declared.response.Response.{Response}
use Rattle.model.specs.State.{State}
use Rattle.model.specs.Messages.{Sending, message}
use Rattle.model.specs.Tick.{Shared, Passed, Pass, messages, onward, still_due, acts, asked, counts, passes_live, passes, passes_all, passes_at, passed, shared_of}

-- no more is sent than requests are taken, and at most one id joins the late list
abbrev Sized : Passed → List ℕ → List ℕ → Type 0
Sized p requests late = (length p.responses + length p.shared.requests ≤ length requests) × (length p.shared.late ≤ length late + 1)

messages_sized : (requests : List ℕ) (f : Figures) (xs : List Item) (kept : List Kept) (late : List ℕ) → Sized (messages requests f xs kept late) requests late
messages_sized [] f xs kept late = (omega arith, omega (arith, length_push late (joined f).id))
messages_sized (h ∷ hs) f xs kept late =
    at (message h f xs kept) (still_due (message h f xs kept)) (messages_sized hs (message h f xs kept).figures (message h f xs kept).items (message h f xs kept).kept late)
  where
    at : (m : Sending) (b : Bool) → Sized (messages hs m.figures m.items m.kept late) hs late → Sized (onward b m hs late (messages hs m.figures m.items m.kept late)) (h ∷ hs) late
    at m true s = (omega (arith, s.0), s.1)
    at m false s = (omega arith, omega arith)

acts_sized : (o : Outcome) (f : Figures) (q : Shared) → Sized (acts o f q) q.requests q.late
acts_sized Rests f q = (omega arith, omega arith)
acts_sized Sends f q = messages_sized q.requests f q.items q.kept q.late
acts_sized Joins f q = (omega arith, omega (arith, length_push q.late f.id))
acts_sized Ends f q = (omega arith, omega arith)

counts_sized : (b : Bool) (f : Figures) (q : Shared) → Sized (counts b f q) q.requests q.late
counts_sized true f q = acts_sized (cycle (asked q) (any_waits f.id q.items) (counted_down f)).outcome (cycle (asked q) (any_waits f.id q.items) (counted_down f)).after q
counts_sized false f q = (omega arith, omega arith)

live_sized : (b : Bool) (f : Figures) (q : Shared) → Sized (passes_live b f q) q.requests q.late
live_sized true f q = counts_sized (runs f) f q
live_sized false f q = (omega arith, omega arith)

passes_sized : (f : Figures) (q : Shared) → Sized (passes f q) q.requests q.late
passes_sized f q = live_sized (live f.phase) f q

-- what is left to do, from slot i on
abbrev ahead : ℕ → State → Pass
ahead i s = passes_all (drop i s.subscriptions) (shared_of s)

-- slot i is next, and `count` responses stand in `out`
pub record Passing (s₀ : State) (out₀ : List Response) (i count : ℕ) (s : State) (out : List Response) : Type 0 where
  pub next : s.next ≡ s₀.next
  pub size : length s.subscriptions ≡ length s₀.subscriptions
  pub subscriptions : take i s.subscriptions ++ (ahead i s).subscriptions ≡ (passed s₀).subscriptions
  pub shared : (ahead i s).shared ≡ (passed s₀).shared
  pub sent : take count out ++ (ahead i s).responses ≡ (passed s₀).responses
  pub behind : drop count out ≡ drop count out₀
  pub long : length out ≡ length out₀
  pub space : count + length s.requests ≤ 8
  pub room : length s.late + (length s.subscriptions - i) ≤ 8

module _ (s₀ : State) (out₀ : List Response) (i count : ℕ) (s : State) (out : List Response) (g : Passing s₀ out₀ i count s out) (lt : i < length s.subscriptions) (long : 8 ≤ length out) where
  fits : count + length (passes_at s i).responses ≤ length out
  fits = let h = passes_sized (get_or s.subscriptions i blank) (shared_of s) in let k = g.space in omega arith

  unfolds : ahead i s ≡ passes_all (get_or s.subscriptions i blank ∷ drop (i + 1) s.subscriptions) (shared_of s)
  unfolds = ap (λ l. passes_all l (shared_of s)) (drop_more s.subscriptions i blank lt)

  pub goes_on : (s' : State) (out' : List Response) (count' : ℕ) → s'.next ≡ s.next → s'.subscriptions ≡ set s.subscriptions i (passes_at s i).figures → shared_of s' ≡ (passes_at s i).shared → count' ≡ count + length (passes_at s i).responses → out' ≡ sets out count (passes_at s i).responses → Passing s₀ out₀ (i + 1) count' s' out'
  goes_on s' out' count' en es eq ec eo =
      let h = passes_sized (get_or s.subscriptions i blank) (shared_of s) in
      let sent = (passes_at s i).responses in
      let eo' : out' ≡ (take count out ++ sent) ++ drop (count + length sent) out
      = eo ∙ sets-eq sent out count fits in
      let n : length (take count out ++ sent) ≡ count'
      = length-append (take count out) sent ∙ ap (λ k. k + length sent) (length-take-le count out (let f = fits in omega arith)) ∙ sym ec in
      let a : ahead (i + 1) s' ≡ passes_all (drop (i + 1) s.subscriptions) (passes_at s i).shared
      = ap₂ passes_all (ap (drop (i + 1)) es ∙ drop-set-lt (i + 1) s.subscriptions i (passes_at s i).figures (omega arith)) eq in
      record {
        next = en ∙ g.next;
        size = ap length es ∙ length-set s.subscriptions i (passes_at s i).figures ∙ g.size;
        subscriptions =
            ap₂ (λ x y. x ++ y) (ap (take (i + 1)) es ∙ take_more_set s.subscriptions i (passes_at s i).figures lt) (ap (λ p. p.subscriptions) a)
            ∙ append_assoc (take i s.subscriptions) ((passes_at s i).figures ∷ []) _ ∙ ap (λ l. take i s.subscriptions ++ l) (sym (ap (λ p. p.subscriptions) unfolds)) ∙ g.subscriptions;
        shared = ap (λ p. p.shared) a ∙ sym (ap (λ p. p.shared) unfolds) ∙ g.shared;
        sent =
            ap₂ (λ x y. x ++ y) (ap (take count') eo' ∙ take_at (take count out ++ sent) _ count' n) (ap (λ p. p.responses) a)
            ∙ append_assoc (take count out) sent _ ∙ ap (λ l. take count out ++ l) (sym (ap (λ p. p.responses) unfolds)) ∙ g.sent;
        behind =
            ap (drop count') eo' ∙ drop_at (take count out ++ sent) _ count' n
            ∙ sym (drop-drop (length sent) count out) ∙ ap (drop (length sent)) g.behind
            ∙ drop-drop (length sent) count out₀ ∙ ap (λ k. drop k out₀) (sym ec);
        long = ap length eo ∙ length-sets out count sent ∙ g.long;
        space = let b = g.space in let e = ap (λ q. length q.requests) eq in omega arith;
        room = let b = g.room in let e = ap (λ q. length q.late) eq in let z = ap length es ∙ length-set s.subscriptions i (passes_at s i).figures in omega arith;
      }
