-- What the events say of an item since its latest start, against the item itself.
use Rattle.std.proofs.Common.{◌≡◌, ℕ, ◌-◌, Bool, true, false, cond, eqb, leb, ◌⊎◌, List, [], ◌∷◌, length, Some, None, Option, sym, refl, ap, ◌∙◌, subst, inl, inr, arith, eq-eqb}
use Rattle.std.proofs.lemmas.Bool.{true≢false, eqb-true}
use Rattle.fifo.specs.Lists.{first, rest}
use Rattle.values.specs.declared.value.Sample.{Sample}
use Rattle.values.specs.Change.{changed}
use Rattle.values.proofs.Changes.{changed_itself}
use Rattle.sources.specs.declared.source.Standing.{Standing}
use Rattle.sources.specs.Standings.{sample_of}
use Rattle.items.specs.declared.waiting.Waiting.{Waiting}
use Rattle.items.specs.declared.item.Mode.{Mode}
use Rattle.items.specs.declared.item.Mode.TheVariants.{Disabled, Sampling, Reporting}
use Rattle.items.specs.Item.{Item, counting, with_waiting, accepts, offered, by_mode, ticked, between, served}
use Rattle.items.specs.Queue.{queued}
use Rattle.model.specs.Monitoring.{starting}
use Rattle.model.specs.Tick.{enabled_mode, samples}
use Rattle.model.specs.Sound.{newest}
use Rattle.soundness.proofs.Members.{none_some}
use Rattle.soundness.proofs.Entries.{some_same}
use Rattle.soundness.proofs.Waiting.{queued_newest}
use Rattle.laws.specs.Laws.{Since, nothing, only_if, since_start}

-- the last queued sample was sent last with nothing waiting since, or it is the newest waiting one
abbrev pub QueuedOrSent : List Waiting → Option Sample → Sample → Type 0
QueuedOrSent ws sent u = ((ws ≡ []) × (sent ≡ Some u)) ⊎ (newest ws ≡ Some u)

-- of an item not disabled: where it was sampled since its start, the last queued sample shows no change against the last sampled
abbrev pub Tracked : Item → Since → Type 0
Tracked x t =
    ((u : Sample) → enabled_mode x.mode ≡ true → x.last ≡ Some u → QueuedOrSent x.waiting t.sent u)
    × ((v : Sample) → enabled_mode x.mode ≡ true → t.sampled ≡ Some v → (u : Sample) × (x.last ≡ Some u) × (changed x.settings.filter.filter u v ≡ false))

abbrev pub sampled_now : Sample → Since → Since
sampled_now v t = record { sampled = Some v; sent = t.sent }

abbrev pub sent_now : Sample → Since → Since
sent_now v t = record { sampled = t.sampled; sent = Some v }

-- an event of this item
pub this : (k : ℕ) (new old : Since) → only_if (eqb k k) new old ≡ new
this k new old = ap (λ b. only_if b new old) (eq-eqb k k refl)

-- an event of another item
pub another : (k j : ℕ) (new old : Since) → (k ≡ j → ⊥) → only_if (eqb k j) new old ≡ old
another k j new old ne = at (eqb k j) refl
  where
    at : (b : Bool) → eqb k j ≡ b → only_if b new old ≡ old
    at true e = absurd (ne (eqb-true k j e))
    at false e = refl

-- an item that starts: nothing is known, and nothing was queued
pub tracked_start : (x : Item) → x.last ≡ None → Tracked x nothing
tracked_start x n = ((λ u m e. absurd (none_some (sym n ∙ e))), (λ v m e. absurd (none_some e)))

pub tracked_disabled : (x : Item) (t : Since) → x.mode ≡ Disabled → Tracked x t
tracked_disabled x t d = ((λ u m e. absurd (true≢false (sym m ∙ ap enabled_mode d))), (λ v m e. absurd (true≢false (sym m ∙ ap enabled_mode d))))

-- the oldest waiting sample goes out
pub tracked_served : (x : Item) (w : Waiting) (t : Since) → first x.waiting ≡ Some w → Tracked x t → Tracked (served x) (sent_now w.sample t)
tracked_served x w t e h = ((λ u m l. at x.waiting u e (h.0 u m l)), h.1)
  where
    at : (ws : List Waiting) (u : Sample) → first ws ≡ Some w → QueuedOrSent ws t.sent u → QueuedOrSent (rest ws) (Some w.sample) u
    at [] u e q = absurd (none_some e)
    at (y ∷ ws) u e (inl p) = let n = ap length p.0 in absurd (omega arith)
    at (y ∷ []) u e (inr n) = let q : y ≡ w = some_same y w e in inl (refl, ap (λ z. Some z.sample) (sym q) ∙ n)
    at (y ∷ z ∷ ws) u e (inr n) = inr n

pub tracked_offered : (x : Item) (v : Sample) (t : Since) → Tracked x t → Tracked (offered x v) (sampled_now v t)
tracked_offered x v t h = at x.last refl
  where
    ws : List Waiting
    ws = queued x.size x.settings.discard_oldest x.waiting v

    goes : Tracked (with_waiting x (Some v) ws) (sampled_now v t)
    goes = (
      (λ u m e. inr (queued_newest x.size x.waiting v x.settings.discard_oldest ∙ e)),
      (λ w m e. (v, refl, subst (λ z. changed x.settings.filter.filter v z ≡ false) (some_same v w e) (changed_itself x.settings.filter v))),
    )

    by : (u : Sample) → x.last ≡ Some u → (b : Bool) → changed x.settings.filter.filter u v ≡ b → Tracked (cond b (with_waiting x (Some v) ws) x) (sampled_now v t)
    by u l true c = goes
    by u l false c = (h.0, (λ w m e. (u, l, subst (λ z. changed x.settings.filter.filter u z ≡ false) (some_same v w e) c)))

    at : (o : Option Sample) → x.last ≡ o → Tracked (cond (accepts o x.settings.filter v) (with_waiting x (Some v) ws) x) (sampled_now v t)
    at None l = goes
    at (Some u) l = by u l (changed x.settings.filter.filter u v) refl

pub tracked_ticked : (stands : ℕ → Option Standing) (x : Item) (t : Since) → Tracked x t → Tracked (ticked stands x) (cond (samples x) (sampled_now (sample_of (stands x.identity.node)) t) t)
tracked_ticked stands x t h = at x.mode
  where
    v : Sample
    v = sample_of (stands x.identity.node)

    count : (b : Bool) → Tracked (cond b (offered (counting x x.settings.interval) v) (counting x (x.countdown - 1))) (cond b (sampled_now v t) t)
    count true = tracked_offered (counting x x.settings.interval) v t h
    count false = h

    at : (m : Mode) → Tracked (by_mode m stands x) (cond (cond (enabled_mode m) (leb x.countdown 1) false) (sampled_now v t) t)
    at Disabled = h
    at Sampling = count (leb x.countdown 1)
    at Reporting = count (leb x.countdown 1)

-- another mode, and the event where it starts again
pub tracked_between : (a b : Mode) (x : Item) (k : ℕ) (t : Since) → x.mode ≡ a → Tracked x t → Tracked (between a b x) (since_start k t (starting a b k))
tracked_between Disabled Disabled x k t e h = h
tracked_between Disabled Sampling x k t e h = subst (Tracked (between Disabled Sampling x)) (sym (this k nothing t)) (tracked_start (between Disabled Sampling x) refl)
tracked_between Disabled Reporting x k t e h = subst (Tracked (between Disabled Reporting x)) (sym (this k nothing t)) (tracked_start (between Disabled Reporting x) refl)
tracked_between Sampling Disabled x k t e h = tracked_disabled (between Sampling Disabled x) t refl
tracked_between Sampling Sampling x k t e h = h
tracked_between Sampling Reporting x k t e h = ((λ u m l. h.0 u (ap enabled_mode e) l), (λ v m l. h.1 v (ap enabled_mode e) l))
tracked_between Reporting Disabled x k t e h = tracked_disabled (between Reporting Disabled x) t refl
tracked_between Reporting Sampling x k t e h = ((λ u m l. h.0 u (ap enabled_mode e) l), (λ v m l. h.1 v (ap enabled_mode e) l))
tracked_between Reporting Reporting x k t e h = h
