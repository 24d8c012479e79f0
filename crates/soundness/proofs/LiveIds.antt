-- The ids of the live subscriptions after a change.
use Rattle.std.proofs.Common.{◌≡◌, ℕ, ◌≤◌, Bool, true, false, cond, eqb, List, [], ◌∷◌, ◌++◌, map, length, Some, None, filter, Option, sym, refl, ap, ◌∙◌, inl, inr, arith}
use Rattle.std.proofs.lemmas.List.{length-map}
use Rattle.std.proofs.lemmas.Bool.{eqb-true, eqb-false, true≢false}
use Rattle.fifo.specs.Lists.{lookup, replaced, without}
use Rattle.subscriptions.specs.declared.figures.Figures.{Figures}
use Rattle.subscriptions.specs.Keys.{id_of}
use Rattle.model.specs.State.{only_live, live_in}
use Rattle.model.specs.Sound.{In, alive, live_ids}
use Rattle.soundness.proofs.Members.{none_some, drops}
use Rattle.soundness.proofs.Entries.{some_same, length_passing}
use Rattle.soundness.proofs.Subs.{lookup_key}

-- the id, where the subscription is live
abbrev pub live_id : Figures → List ℕ
live_id f = cond (alive f) (id_of f ∷ []) []

pub live_first : (f : Figures) (fs : List Figures) → live_ids (f ∷ fs) ≡ live_id f ++ live_ids fs
live_first f fs = at (alive f)
  where
    at : (b : Bool) → map id_of (cond b (f ∷ filter alive fs) (filter alive fs)) ≡ cond b (id_of f ∷ []) [] ++ live_ids fs
    at true = refl
    at false = refl

pub same_first : (f g : Figures) → g.id ≡ f.id → alive g ≡ alive f → live_id g ≡ live_id f
same_first f g i e = ap (λ n. cond (alive g) (n ∷ []) []) i ∙ ap (λ b. cond b (id_of f ∷ []) []) e

-- the live subscription that a call names
pub live_found : (id : ℕ) (fs : List Figures) (f : Figures) → live_in id fs ≡ Some f → (lookup id_of id fs ≡ Some f) × (alive f ≡ true)
live_found id fs f e = at (lookup id_of id fs) e
  where
    by : (b : Bool) (g : Figures) → alive g ≡ b → cond b (Some g) None ≡ Some f → (Some g ≡ Some f) × (alive f ≡ true)
    by true g a h = (h, ap alive (sym (some_same g f h)) ∙ a)
    by false g a h = absurd (none_some h)

    at : (o : Option Figures) → only_live o ≡ Some f → (o ≡ Some f) × (alive f ≡ true)
    at None h = absurd (none_some h)
    at (Some g) h = by (alive g) g refl h

pub live_in_lem : (id : ℕ) (fs : List Figures) (f : Figures) → lookup id_of id fs ≡ Some f → alive f ≡ true → In id (live_ids fs)
live_in_lem id [] f e a = absurd (none_some e)
live_in_lem id (x ∷ fs) f e a = at (eqb x.id id) refl e (live_in_lem id fs f)
  where
    here : (b : Bool) → b ≡ true → x.id ≡ id → In id (map id_of (cond b (x ∷ filter alive fs) (filter alive fs)))
    here true h i = inl i
    here false h i = absurd (true≢false (sym h))

    there : (b : Bool) → In id (live_ids fs) → In id (map id_of (cond b (x ∷ filter alive fs) (filter alive fs)))
    there true h = inr h
    there false h = h

    at : (b : Bool) → eqb x.id id ≡ b → cond b (Some x) (lookup id_of id fs) ≡ Some f → (lookup id_of id fs ≡ Some f → alive f ≡ true → In id (live_ids fs)) → In id (live_ids (x ∷ fs))
    at true t h ih = here (alive x) (ap alive (some_same x f h) ∙ a) (eqb-true x.id id t)
    at false t h ih = there (alive x) (ih h a)

-- a subscription is replaced by one with its id, as live as it was
pub live_replaced : (k : ℕ) (g : Figures) (fs : List Figures) (f : Figures) → lookup id_of k fs ≡ Some f → g.id ≡ f.id → alive g ≡ alive f → live_ids (replaced id_of g fs) ≡ live_ids fs
live_replaced k g [] f e i a = refl
live_replaced k g (x ∷ fs) f e i a = at (eqb x.id g.id) refl (eqb x.id k) refl e (λ h. live_replaced k g fs f h i a)
  where
    same : g.id ≡ k
    same = i ∙ lookup_key id_of k (x ∷ fs) f e

    over : (b : Bool) → live_ids (replaced id_of g fs) ≡ live_ids fs → map id_of (cond b (x ∷ filter alive (replaced id_of g fs)) (filter alive (replaced id_of g fs))) ≡ map id_of (cond b (x ∷ filter alive fs) (filter alive fs))
    over true h = ap (λ l. x.id ∷ l) h
    over false h = h

    at : (b : Bool) → eqb x.id g.id ≡ b → (c : Bool) → eqb x.id k ≡ c → cond c (Some x) (lookup id_of k fs) ≡ Some f → (lookup id_of k fs ≡ Some f → live_ids (replaced id_of g fs) ≡ live_ids fs) → live_ids (cond b (g ∷ fs) (x ∷ replaced id_of g fs)) ≡ live_ids (x ∷ fs)
    at true t true u h ih =
        let q = some_same x f h in
        live_first g fs ∙ ap (λ l. l ++ live_ids fs) (same_first x g (i ∙ ap id_of (sym q)) (a ∙ ap alive (sym q))) ∙ sym (live_first x fs)
    at true t false u h ih = absurd (eqb-false x.id k u (eqb-true x.id g.id t ∙ same))
    at false t true u h ih = absurd (eqb-false x.id g.id t (eqb-true x.id k u ∙ sym same))
    at false t false u h ih = over (alive x) (ih h)

-- a live one goes
pub live_without : (k : ℕ) (fs : List Figures) (f : Figures) → lookup id_of k fs ≡ Some f → alive f ≡ true → live_ids (without id_of k fs) ≡ drops k (live_ids fs)
live_without k [] f e a = refl
live_without k (x ∷ fs) f e a = at (eqb x.id k) refl e (λ h. live_without k fs f h a)
  where
    here : (b : Bool) → b ≡ true → eqb x.id k ≡ true → live_ids fs ≡ drops k (map id_of (cond b (x ∷ filter alive fs) (filter alive fs)))
    here true h t = ap (λ c. cond c (live_ids fs) (x.id ∷ drops k (live_ids fs))) (sym t)
    here false h t = absurd (true≢false (sym h))

    over : (b : Bool) → eqb x.id k ≡ false → live_ids (without id_of k fs) ≡ drops k (live_ids fs) → map id_of (cond b (x ∷ filter alive (without id_of k fs)) (filter alive (without id_of k fs))) ≡ drops k (map id_of (cond b (x ∷ filter alive fs) (filter alive fs)))
    over true t h = ap (λ l. x.id ∷ l) h ∙ ap (λ c. cond c (live_ids fs) (x.id ∷ drops k (live_ids fs))) (sym t)
    over false t h = h

    at : (b : Bool) → eqb x.id k ≡ b → cond b (Some x) (lookup id_of k fs) ≡ Some f → (lookup id_of k fs ≡ Some f → live_ids (without id_of k fs) ≡ drops k (live_ids fs)) → live_ids (cond b fs (x ∷ without id_of k fs)) ≡ drops k (live_ids (x ∷ fs))
    at true t h ih = here (alive x) (ap alive (some_same x f h) ∙ a) t
    at false t h ih = over (alive x) t (ih h)

-- one that is not live goes
pub ended_without : (k : ℕ) (fs : List Figures) (f : Figures) → lookup id_of k fs ≡ Some f → alive f ≡ false → live_ids (without id_of k fs) ≡ live_ids fs
ended_without k [] f e a = refl
ended_without k (x ∷ fs) f e a = at (eqb x.id k) e (λ h. ended_without k fs f h a)
  where
    here : (b : Bool) → b ≡ false → live_ids fs ≡ map id_of (cond b (x ∷ filter alive fs) (filter alive fs))
    here true h = absurd (true≢false h)
    here false h = refl

    over : (b : Bool) → live_ids (without id_of k fs) ≡ live_ids fs → map id_of (cond b (x ∷ filter alive (without id_of k fs)) (filter alive (without id_of k fs))) ≡ map id_of (cond b (x ∷ filter alive fs) (filter alive fs))
    over true h = ap (λ l. x.id ∷ l) h
    over false h = h

    at : (b : Bool) → cond b (Some x) (lookup id_of k fs) ≡ Some f → (lookup id_of k fs ≡ Some f → live_ids (without id_of k fs) ≡ live_ids fs) → live_ids (cond b fs (x ∷ without id_of k fs)) ≡ live_ids (x ∷ fs)
    at true h ih = here (alive x) (ap alive (some_same x f h) ∙ a)
    at false h ih = over (alive x) (ih h)

-- a new one comes last
pub live_push : (fs : List Figures) (f : Figures) → alive f ≡ true → live_ids (fs ++ f ∷ []) ≡ live_ids fs ++ f.id ∷ []
live_push [] f a = ap (λ b. map id_of (cond b (f ∷ []) [])) a
live_push (x ∷ fs) f a = at (alive x) (live_push fs f a)
  where
    at : (b : Bool) → live_ids (fs ++ f ∷ []) ≡ live_ids fs ++ f.id ∷ [] → map id_of (cond b (x ∷ filter alive (fs ++ f ∷ [])) (filter alive (fs ++ f ∷ []))) ≡ map id_of (cond b (x ∷ filter alive fs) (filter alive fs)) ++ f.id ∷ []
    at true h = ap (λ l. x.id ∷ l) h
    at false h = h

pub live_few : (fs : List Figures) → length (live_ids fs) ≤ length fs
live_few fs = let h = length_passing alive fs in omega (arith, length-map (filter alive fs) id_of)
