-- A cycle in which a subscription is due ends with its message sent or with it on the late list.
use Rattle.std.proofs.Common.{◌≡◌, ℕ, Bool, true, false, cond, eqb, ltb, List, [], ◌∷◌, ◌++◌, sym, refl, ap, ◌∙◌, subst, inl, inr, append_assoc, Option}
use Rattle.std.specs.List.{AllByRecursion}
use Rattle.std.proofs.lemmas.Bool.{true≢false, eq-eqb}
use Rattle.sources.specs.declared.source.Standing.{Standing}
use Rattle.subscriptions.specs.declared.figures.Figures.{Figures}
use Rattle.subscriptions.specs.Facts.{prompt, live}
use Rattle.subscriptions.specs.Changes.{runs, messaged, counted_down}
use Rattle.items.specs.Item.{Item}
use Rattle.messages.specs.declared.response.Response.{Response}
use Rattle.retransmission.specs.Rows.{Kept}
use Rattle.answers.specs.declared.fault.ServiceFault.TheVariants.{ListTooShort}
use Rattle.model.specs.State.{State, new_state}
use Rattle.model.specs.Steps.{refused}
use Rattle.model.specs.Messages.{message}
use Rattle.model.specs.Tick.{samplings, Shared, Passed, passes, passes_all, shared_of, passed, sampled_state, ticked_by}
use Rattle.model.specs.Sound.{In, Bounded, Placed, Published}
use Rattle.soundness.proofs.Members.{in_left, in_last}
use Rattle.soundness.proofs.Turns.{message_carried, Messaging, no_request, final, further, quieted, Passing, over, counting, lasting, ending, quieting, sending, joining, passing}
use Rattle.laws.specs.Runs.{Scene, done, shows}
use Rattle.laws.specs.Runs as calls
use Rattle.laws.specs.Laws.{DueIn, HeardIn, HeardBy, Heard, joined_ids}
use Rattle.laws.proofs.Sounds.{sound_final}
use Rattle.laws.proofs.Joins.{all_grow}

-- a response shows its subscription
shows_first : (id : ℕ) (r : Response) (rs : List Response) → r.subscription ≡ id → shows id (r ∷ rs) ≡ true
shows_first id r rs e = ap (λ b. cond b true (shows id rs)) (eq-eqb r.subscription id e)

shows_left : (id : ℕ) (rs us : List Response) → shows id rs ≡ true → shows id (rs ++ us) ≡ true
shows_left id [] us e = absurd (true≢false (sym e))
shows_left id (r ∷ rs) us e = at (eqb r.subscription id) e (shows_left id rs us)
  where
    at : (b : Bool) → cond b true (shows id rs) ≡ true → (shows id rs ≡ true → shows id (rs ++ us) ≡ true) → cond b true (shows id (rs ++ us)) ≡ true
    at true e ih = refl
    at false e ih = ih e

shows_right : (id : ℕ) (rs us : List Response) → shows id us ≡ true → shows id (rs ++ us) ≡ true
shows_right id [] us e = e
shows_right id (r ∷ rs) us e = at (eqb r.subscription id) (shows_right id rs us e)
  where
    at : (b : Bool) → shows id (rs ++ us) ≡ true → cond b true (shows id (rs ++ us)) ≡ true
    at true e = refl
    at false e = e

heard_messages : (id : ℕ) (hs : List ℕ) (f : Figures) (xs : List Item) (kept : List Kept) (late : List ℕ) (t : Passed) → Messaging hs f xs kept late t → f.id ≡ id → HeardIn id t.responses t.shared.late
heard_messages id hs f xs kept late t (no_request _ _ _ _) e = inr (subst (λ k. In k (late ++ f.id ∷ [])) e (in_last f.id late))
heard_messages id hs f xs kept late t (final h rest _ _ _ _ d) e = inl (shows_first id (message h f xs kept).response [] ((message_carried h f xs kept).subscription ∙ e))
heard_messages id hs f xs kept late t (further h rest _ _ _ _ u d w) e = inl (shows_first id (message h f xs kept).response u.responses ((message_carried h f xs kept).subscription ∙ e))

-- one turn: a late subscription is on the late list already
heard_turn : (f : Figures) (q : Shared) (t : Passed) → Passing f q t → (prompt f.phase ≡ false → In f.id q.late) → live f.phase ≡ true → runs f ≡ true → DueIn (counted_down f) q →
    HeardIn f.id t.responses t.shared.late
heard_turn f q t (over v) place l r d = absurd (true≢false (sym l ∙ v))
heard_turn f q t (counting v n) place l r d = absurd (true≢false (sym r ∙ n))
heard_turn f q t (lasting e n i) place l r d = inr (place (ap prompt e))
heard_turn f q t (ending e n a i) place l r d = inr (place (ap prompt e))
heard_turn f q t (quieting p n z) place l r d = absurd (true≢false (sym d ∙ z))
heard_turn f q t (sending p n z a _ w) place l r d = heard_messages f.id q.requests (messaged (quieted q f)) q.items q.kept q.late t w refl
heard_turn f q t (joining p n z a) place l r d = inr (in_last f.id q.late)

-- the turns of two lists, one after the other
responses_append : (fs gs : List Figures) (q : Shared) → (passes_all (fs ++ gs) q).responses ≡ (passes_all fs q).responses ++ (passes_all gs (passes_all fs q).shared).responses
responses_append [] gs q = refl
responses_append (f ∷ fs) gs q =
    let t = passes f q in
    ap (λ l. t.responses ++ l) (responses_append fs gs t.shared) ∙ sym (append_assoc t.responses (passes_all fs t.shared).responses (passes_all gs (passes_all fs t.shared).shared).responses)

shared_append : (fs gs : List Figures) (q : Shared) → (passes_all (fs ++ gs) q).shared ≡ (passes_all gs (passes_all fs q).shared).shared
shared_append [] gs q = refl
shared_append (f ∷ fs) gs q = shared_append fs gs (passes f q).shared

-- what is so of an element between others
all_at : {X : Type 0} (P : X → Type 0) (xs : List X) (y : X) (zs : List X) → AllByRecursion P (xs ++ y ∷ zs) → P y
all_at P [] y zs a = a.0
all_at P (x ∷ xs) y zs a = all_at P xs y zs a.1

-- what a turn came to is so after the turns behind it, and with the responses of those before it
heard_later : (id : ℕ) (fs : List Figures) (f : Figures) (gs : List Figures) (q : Shared) → HeardIn id (passes f (passes_all fs q).shared).responses (passes f (passes_all fs q).shared).shared.late →
    HeardIn id (passes_all (fs ++ f ∷ gs) q).responses (passes_all (fs ++ f ∷ gs) q).shared.late
heard_later id fs f gs q h = at h
  where
    u : Shared
    u = (passes_all fs q).shared

    at : HeardIn id (passes f u).responses (passes f u).shared.late → HeardIn id (passes_all (fs ++ f ∷ gs) q).responses (passes_all (fs ++ f ∷ gs) q).shared.late
    at (inl e) =
        inl (ap (shows id) (responses_append fs (f ∷ gs) q)
        ∙ shows_right id (passes_all fs q).responses (passes_all (f ∷ gs) u).responses (shows_left id (passes f u).responses (passes_all gs (passes f u).shared).responses e))
    at (inr h) =
        inr (subst (In id) (ap (λ p. p.late) (sym (shared_append fs (f ∷ gs) q)))
        (subst (In id) (sym (all_grow gs (passes f u).shared)) (in_left id (passes f u).shared.late (joined_ids (passes_all gs (passes f u).shared).events) h)))

heard_passed : (stands : ℕ → Option Standing) (s : State) → Published s → (fs : List Figures) (f : Figures) (gs : List Figures) → s.subscriptions ≡ fs ++ f ∷ gs →
    live f.phase ≡ true → runs f ≡ true → DueIn (counted_down f) (passes_all fs (shared_of (sampled_state stands s))).shared →
    HeardIn f.id (passes f (passes_all fs (shared_of (sampled_state stands s))).shared).responses (passes f (passes_all fs (shared_of (sampled_state stands s))).shared).shared.late
    × HeardIn f.id (passed (sampled_state stands s)).responses (passed (sampled_state stands s)).shared.late
heard_passed stands s p fs f gs e l r d =
    let q = shared_of (sampled_state stands s) in
    let u = (passes_all fs q).shared in
    let b = all_at Bounded fs f gs (subst (AllByRecursion Bounded) e p.bounded) in
    let w = all_at (Placed s.late) fs f gs (subst (AllByRecursion (Placed s.late)) e p.placed) in
    let h =
    heard_turn f u (passes f u) (passing f u b)
    (λ z. subst (In f.id) (sym (all_grow fs q)) (in_left f.id s.late (joined_ids (passes_all fs q).events) (w.1 z))) l r d in
    (h, subst (λ gs. HeardIn f.id (passes_all gs q).responses (passes_all gs q).shared.late) (sym e) (heard_later f.id fs f gs q h))

pub tick_heard : (stands : ℕ → Option Standing) (s : State) → Published s → (room : ℕ) → (calls.called s (record { stands = stands; call = calls.Tick room })).accepted ≡ true →
    HeardBy stands s (calls.called s (record { stands = stands; call = calls.Tick room }))
tick_heard stands s p room a = at (ltb room 8) a
  where
    at : (b : Bool) → (done (cond b (refused s ListTooShort) (ticked_by (samplings stands s.items) s (passed (sampled_state stands s))))).accepted ≡ true →
        HeardBy stands s (done (cond b (refused s ListTooShort) (ticked_by (samplings stands s.items) s (passed (sampled_state stands s)))))
    at true a = absurd (true≢false (sym a))
    at false a = heard_passed stands s p

pub heard : (first : ℕ) (scenes : List Scene) → Heard first scenes
heard first scenes before stands room after e a = tick_heard stands (calls.final (new_state first) before) (sound_final first before).published room a
