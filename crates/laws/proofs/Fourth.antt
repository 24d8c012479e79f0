-- A late subscription answers when those before it on the late list have.
use Rattle.std.proofs.Common.{◌≡◌, ℕ, zero, suc, ◌+◌, ◌≤◌, Bool, true, false, cond, eqb, ◌⊎◌, List, [], ◌∷◌, ◌++◌, map, length, Some, None, sym, refl, ap, ◌∙◌, subst, inl, inr, append_assoc, arith, length-append, Option}
use Rattle.std.proofs.lemmas.Bool.{true≢false, eq-eqb, eqb-true, eqb-false, or_left, or_right}
use Rattle.fifo.specs.Lists.{none, first, rest, without}
use Rattle.sources.specs.declared.source.Standing.{Standing}
use Rattle.subscriptions.specs.declared.figures.Figures.{Figures}
use Rattle.subscriptions.specs.Keys.{id_of}
use Rattle.messages.specs.declared.response.Response.{Response}
use Rattle.answers.specs.declared.acknowledgement.Acknowledgement.{Acknowledgement}
use Rattle.model.specs.State.{State, new_state}
use Rattle.model.specs.Steps.{Event, Joined, Started, Sampled, Sent, Step}
use Rattle.model.specs.Publish.{publish}
use Rattle.model.specs.Sound.{In, Published, Sound}
use Rattle.soundness.proofs.Members.{in_right, first_none}
use Rattle.soundness.proofs.Subs.{lookup_key}
use Rattle.soundness.proofs.Cases.{Requesting, nobody, lost, answered, again, ended, queued, crowds, acknowledged_state}
use Rattle.soundness.proofs.Cases as cases
use Rattle.soundness.proofs.Turns.{message_carried}
use Rattle.soundness.proofs.Published.{late_few, never_lost, published_all_acknowledged}
use Rattle.laws.specs.Runs.{Call, CreateSubscription, ModifySubscription, SetPublishingMode, DeleteSubscription, CreateItem, ModifyItem, DeleteItem, SetMonitoringMode, Publish, Republish, Tick, Scene, done, done_by, called, final, handle_if, asked, asked_by, answers_to, deletes, deleted}
use Rattle.laws.specs.Runs as calls
use Rattle.laws.specs.Laws.{Fourth, joined_ids, staying}
use Rattle.laws.proofs.Sounds.{sound_call, sound_final}
use Rattle.laws.proofs.Effects.{effect}

-- id stands on the list with at most p before it
pub record Front (p id : ℕ) (late : List ℕ) : Type 0 where
  pub before : List ℕ
  pub behind : List ℕ
  pub split : late ≡ before ++ id ∷ behind
  pub near : length before ≤ p

front_in : (p id : ℕ) (late : List ℕ) → Front p id late → In id late
front_in p id late f = subst (In id) (sym f.split) (in_right id f.before (id ∷ f.behind) (inl refl))

front_some : (p id : ℕ) (late : List ℕ) → Front p id late → first late ≡ None → ⊥
front_some p id late f e = subst (In id) (first_none late e) (front_in p id late f)

-- the first is id, or id comes one nearer without it
front_rest : (p id k : ℕ) (late : List ℕ) → Front p id late → first late ≡ Some k → (k ≡ id) ⊎ ((q : ℕ) × Front q id (rest late) × (suc q ≤ p))
front_rest p id k late f e = at f.before f.split f.near
  where
    at : (xs : List ℕ) → late ≡ xs ++ id ∷ f.behind → length xs ≤ p → (k ≡ id) ⊎ ((q : ℕ) × Front q id (rest late) × (suc q ≤ p))
    at [] s n = let z : Some k ≡ Some id = sym e ∙ ap first s in let y : k ≡ id = cc in inl y
    at (x ∷ xs) s n = inr (length xs, record { before = xs; behind = f.behind; split = ap rest s; near = omega arith }, n)

-- what joins stands behind it
front_more : (p id : ℕ) (late more : List ℕ) → Front p id late → Front p id (late ++ more)
front_more p id late more f =
    record { before = f.before; behind = f.behind ++ more; split = ap (λ l. l ++ more) f.split ∙ append_assoc f.before (id ∷ f.behind) more; near = f.near }

-- another leaves
front_without : (p id k : ℕ) (late : List ℕ) → Front p id late → (id ≡ k → ⊥) → Front p id (without (λ n. n) k late)
front_without p id k late f ne = subst (λ l. Front p id (without (λ n. n) k l)) (sym f.split) (at p f.before f.near)
  where
    at : (p : ℕ) (xs : List ℕ) → length xs ≤ p → Front p id (without (λ n. n) k (xs ++ id ∷ f.behind))
    at p [] n = here (eqb id k) refl
      where
        here : (b : Bool) → eqb id k ≡ b → Front p id (cond b f.behind (id ∷ without (λ n. n) k f.behind))
        here true e = absurd (ne (eqb-true id k e))
        here false e = record { before = []; behind = without (λ n. n) k f.behind; split = refl; near = n }
    at p (x ∷ xs) n = there (eqb x k) (at (length xs) xs (omega arith))
      where
        there : (b : Bool) → Front (length xs) id (without (λ n. n) k (xs ++ id ∷ f.behind)) → Front p id (cond b (xs ++ id ∷ f.behind) (x ∷ without (λ n. n) k (xs ++ id ∷ f.behind)))
        there true g = record { before = xs; behind = f.behind; split = refl; near = omega arith }
        there false g = record { before = x ∷ g.before; behind = g.behind; split = ap (λ l. x ∷ l) g.split; near = let z = g.near in omega arith }

-- what stands on the list has fewer before it than the list is long
in_front : (id n : ℕ) (late : List ℕ) → In id late → length late ≤ suc n → Front n id late
in_front id n [] h le = absurd h
in_front id n (x ∷ late) (inl e) le = record { before = []; behind = late; split = ap (λ k. k ∷ late) e; near = omega arith }
in_front id zero (x ∷ late) (inr h) le = absurd (empty late h (omega arith))
  where
    empty : (xs : List ℕ) → In id xs → length xs ≤ 0 → ⊥
    empty [] h le = h
    empty (y ∷ xs) h le = omega arith
in_front id (suc n) (x ∷ late) (inr h) le =
    let g = in_front id n late h (omega arith) in
    record { before = x ∷ g.before; behind = g.behind; split = ap (λ l. x ∷ l) g.split; near = let z = g.near in omega arith }

-- what a call comes to for a late subscription: it is deleted, it answers, or it stays and comes one nearer with each accepted
-- Publish call
data Next (p id : ℕ) (c : Call) (accepted : Bool) (responses : List Response) (late : List ℕ) : Type 0 where
  gone : deletes id accepted c ≡ true → Next p id c accepted responses late
  told : answers_to id (handle_if accepted c) responses ≡ true → Next p id c accepted responses late
  moved : (q : ℕ) → Front q id (staying accepted c late) → length (handle_if accepted c) + q ≤ p → Next p id c accepted responses late

module _ (p id : ℕ) (late : List ℕ) (f : Front p id late) where
  deleting : (b : Bool) (k room : ℕ) (rs : List Response) → Next p id (DeleteSubscription k room) b rs late
  deleting false k room rs = moved p f (omega arith)
  deleting true k room rs = at (eqb k id) refl
    where
      at : (b : Bool) → eqb k id ≡ b → Next p id (DeleteSubscription k room) true rs late
      at true e = gone e
      at false e = moved p (front_without p id k late f (λ z. eqb-false k id e (sym z))) (omega arith)

  -- the first of the late list answers
  answering : (h : ℕ) (acks : List Acknowledgement) (room places k : ℕ) (r : Response) → first late ≡ Some k → r.subscription ≡ k → Next p id (Publish h acks room places) true (r ∷ []) late
  answering h acks room places k r l e =
      elim (front_rest p id k late f l) [
        | inl q ↦ told (ap (λ b. cond b true false) (eq-eqb r.subscription id (e ∙ q)))
        | inr x ↦ moved x.0 x.1 (let z = x.2 in omega arith)
      ]

requested_next : (s : State) → Published s → (p id : ℕ) → Front p id s.late → (h : ℕ) (acks : List Acknowledgement) (room places : ℕ) (t : Step ℕ) → Requesting s h t →
    Next p id (Publish h acks room places) (done t).accepted t.responses s.late
requested_next s w p id f h acks room places t (nobody e) = absurd (empty s.subscriptions e (w.known id (front_in p id s.late f)))
  where
    empty : (fs : List Figures) → none fs ≡ true → In id (map id_of fs) → ⊥
    empty [] e i = i
    empty (g ∷ fs) e i = true≢false (sym e)
requested_next s w p id f h acks room places t (lost k l e) = absurd (never_lost s w k l e)
requested_next s w p id f h acks room places t (answered k g l e v m) =
    answering p id s.late f h acks room places k _ l ((message_carried h g s.items s.kept).subscription ∙ lookup_key id_of k s.subscriptions g e)
requested_next s w p id f h acks room places t (again k g l e v m) =
    answering p id s.late f h acks room places k _ l ((message_carried h g s.items s.kept).subscription ∙ lookup_key id_of k s.subscriptions g e)
requested_next s w p id f h acks room places t (ended k g l e v) = answering p id s.late f h acks room places k _ l (lookup_key id_of k s.subscriptions g e)
requested_next s w p id f h acks room places t (queued n l r) = absurd (front_some p id s.late f l)
requested_next s w p id f h acks room places t (crowds oldest n l r e) = absurd (front_some p id s.late f l)

publish_next : (s : State) → Published s → (p id : ℕ) → Front p id s.late → (h : ℕ) (acks : List Acknowledgement) (room places : ℕ) (t : Step ℕ) → cases.Publishing s h acks room places t →
    Next p id (Publish h acks room places) (done t).accepted t.responses s.late
publish_next s w p id f h acks room places t (cases.short r) = moved p f (omega arith)
publish_next s w p id f h acks room places t (cases.short_results r) = moved p f (omega arith)
publish_next s w p id f h acks room places t (cases.many m) = moved p f (omega arith)
publish_next s w p id f h acks room places t (cases.accepted u m r) = requested_next (acknowledged_state s acks) (published_all_acknowledged acks s w) p id f h acks room places u r

-- a call that neither deletes a subscription nor requests a response
other_next : (p id : ℕ) (late : List ℕ) → Front p id late → (c : Call) → staying true c late ≡ late → handle_if true c ≡ [] → (b : Bool) (rs : List Response) → Next p id c b rs late
other_next p id late f c e n true rs = moved p (subst (Front p id) (sym e) f) (let z = ap length n in omega arith)
other_next p id late f c e n false rs = moved p f (omega arith)

done_next : (stands : ℕ → Option Standing) (s : State) → Sound s → (p id : ℕ) → Front p id s.late → (c : Call) → Next p id c (done_by stands s c).accepted (done_by stands s c).responses s.late
done_next stands s h p id f (CreateSubscription q enabled) = other_next p id s.late f (CreateSubscription q enabled) refl refl _ _
done_next stands s h p id f (ModifySubscription i q) = other_next p id s.late f (ModifySubscription i q) refl refl _ _
done_next stands s h p id f (SetPublishingMode i enabled) = other_next p id s.late f (SetPublishingMode i enabled) refl refl _ _
done_next stands s h p id f (DeleteSubscription i room) = deleting p id s.late f _ i room _
done_next stands s h p id f (CreateItem i node mode q) = other_next p id s.late f (CreateItem i node mode q) refl refl _ _
done_next stands s h p id f (ModifyItem i item q) = other_next p id s.late f (ModifyItem i item q) refl refl _ _
done_next stands s h p id f (DeleteItem i item) = other_next p id s.late f (DeleteItem i item) refl refl _ _
done_next stands s h p id f (SetMonitoringMode i item mode) = other_next p id s.late f (SetMonitoringMode i item mode) refl refl _ _
done_next stands s h p id f (Publish handle acks room places) = publish_next s h.published p id f handle acks room places (publish s handle acks room places) (cases.publishing_call s handle acks room places)
done_next stands s h p id f (Republish i n) = other_next p id s.late f (Republish i n) refl refl _ _
done_next stands s h p id f (Tick room) = other_next p id s.late f (Tick room) refl refl _ _

-- with at most p before it, the accepted Publish call after p others is answered by it at the latest
pub answered_in_time : (id : ℕ) (cs : List Scene) (s : State) (p : ℕ) → Sound s → Front p id s.late → suc p ≤ length (asked s cs) → (deleted id s cs ≡ true) ⊎ (calls.answered id s cs ≡ true)
answered_in_time id [] s p h f n = absurd (omega arith)
answered_in_time id (c ∷ cs) s p h f n = at (done_next c.stands s h p id f c.call) (λ q. answered_in_time id cs (called s c).state q (sound_call s h c))
  where
    next : State
    next = (called s c).state

    at : Next p id c.call (called s c).accepted (called s c).responses s.late →
        ((q : ℕ) → Front q id next.late → suc q ≤ length (asked next cs) → (deleted id next cs ≡ true) ⊎ (calls.answered id next cs ≡ true)) →
        (deleted id s (c ∷ cs) ≡ true) ⊎ (calls.answered id s (c ∷ cs) ≡ true)
    at (gone e) ih = inl (or_left (deletes id (called s c).accepted c.call) (deleted id next cs) e)
    at (told e) ih = inr (or_left (answers_to id (asked_by s c) (called s c).responses) (calls.answered id next cs) e)
    at (moved q g le) ih =
        let z = length-append (asked_by s c) (asked next cs) in
        elim (ih q (subst (Front q id) (sym (effect s h c).late) (front_more q id (staying (called s c).accepted c.call s.late) (joined_ids (called s c).events) g)) (omega arith)) [
          | inl e ↦ inl (or_right (deletes id (called s c).accepted c.call) (deleted id next cs) e)
          | inr e ↦ inr (or_right (answers_to id (asked_by s c) (called s c).responses) (calls.answered id next cs) e)
        ]

-- what joined is among the ids that joined
joined_in : (id : ℕ) (es : List Event) → In (Joined id) es → In id (joined_ids es)
joined_in id [] h = h
joined_in id (Joined s ∷ es) (inl e) = let q : s ≡ id = cc in inl q
joined_in id (Joined s ∷ es) (inr h) = inr (joined_in id es h)
joined_in id (Started x ∷ es) (inl e) = absurd (let z : ◌≡◌ {A = ℕ} 0 1 = cc in omega arith)
joined_in id (Started x ∷ es) (inr h) = joined_in id es h
joined_in id (Sampled x v ∷ es) (inl e) = absurd (let z : ◌≡◌ {A = ℕ} 0 1 = cc in omega arith)
joined_in id (Sampled x v ∷ es) (inr h) = joined_in id es h
joined_in id (Sent x n ∷ es) (inl e) = absurd (let z : ◌≡◌ {A = ℕ} 0 1 = cc in omega arith)
joined_in id (Sent x n ∷ es) (inr h) = joined_in id es h

pub fourth : (first : ℕ) (scenes : List Scene) → Fourth first scenes
fourth start scenes before c later after id e j n =
    let s = final (new_state start) before in
    let h = sound_final start before in
    let d = called s c in
    let w = sound_call s h c in
    let i = subst (In id) (sym (effect s h c).late) (in_right id (staying d.accepted c.call s.late) (joined_ids d.events) (joined_in id d.events j)) in
    answered_in_time id later d.state 3 w (in_front id 3 d.state.late i (late_few d.state w.published)) n
