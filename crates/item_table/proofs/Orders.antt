-- Lists by rising key stay so.
use Rattle.std.proofs.Common.{◌≡◌, ℕ, zero, suc, ◌<◌, ◌≤◌, Bool, true, false, cond, eqb, ltb, leb, List, [], ◌∷◌, ◌++◌, map, length, get_or, Some, filter, sym, refl, ap, ◌∙◌, arith, ltb-true, lt-ltb, eq-eqb, ne_eqb, eqb-true, Option}
use Rattle.std.specs.Option.{option_map}
use Rattle.fifo.specs.Lists.{position, replaced, without}
use Rattle.sources.specs.declared.source.Standing.{Standing}
use Rattle.sources.specs.Standings.{sample_of}
use Rattle.items.specs.declared.item.Mode.{Mode}
use Rattle.items.specs.declared.item.Mode.TheVariants.{Disabled, Sampling, Reporting}
use Rattle.items.specs.Item.{Item, ticked, by_mode, counted, accepts}
use Rattle.items.specs.Keys.{id_of}
use Rattle.item_table.specs.Rising.{rising_by}
use Rattle.item_table.specs.Table.{all_below}

pub both : (t r : Bool) → cond t r false ≡ true → (t ≡ true) × (r ≡ true)
both true r e = (refl, e)
both false r e = (e, absurd (let z : ◌≡◌ {A = ℕ} 0 1 = ap (λ b. cond b 1 0) e in omega arith))

pub join : (t r : Bool) → t ≡ true → r ≡ true → cond t r false ≡ true
join t r e h = ap (λ b. cond b r false) e ∙ h

module _ {X : Type 0} (f : X → ℕ) where
  pub rising_low : (b c : ℕ) (xs : List X) → b ≤ c → rising_by f c xs ≡ true → rising_by f b xs ≡ true
  rising_low b c [] l h = refl
  rising_low b c (x ∷ xs) l h =
      let p = both (ltb c (f x)) (rising_by f (f x) xs) h in
      let q : c < f x = ltb-true c (f x) p.0 in
      join (ltb b (f x)) (rising_by f (f x) xs) (lt-ltb b (f x) (omega arith)) p.1

  pub rising_replaced : (b : ℕ) (y : X) (xs : List X) → rising_by f b (replaced f y xs) ≡ rising_by f b xs
  rising_replaced b y [] = refl
  rising_replaced b y (x ∷ xs) = at (eqb (f x) (f y)) refl (rising_replaced (f x) y xs)
    where
      at : (t : Bool) → eqb (f x) (f y) ≡ t → rising_by f (f x) (replaced f y xs) ≡ rising_by f (f x) xs → rising_by f b (cond t (y ∷ xs) (x ∷ replaced f y xs)) ≡ cond (ltb b (f x)) (rising_by f (f x) xs) false
      at true e ih = let s : f x ≡ f y = eqb-true (f x) (f y) e in ap (λ k. cond (ltb b k) (rising_by f k xs) false) (sym s)
      at false e ih = ap (λ r. cond (ltb b (f x)) r false) ih

  pub rising_without : (b k : ℕ) (xs : List X) → rising_by f b xs ≡ true → rising_by f b (without f k xs) ≡ true
  rising_without b k [] h = refl
  rising_without b k (x ∷ xs) h = at (eqb (f x) k) (both (ltb b (f x)) (rising_by f (f x) xs) h) (rising_without (f x) k xs)
    where
      at : (t : Bool) → (ltb b (f x) ≡ true) × (rising_by f (f x) xs ≡ true) → (rising_by f (f x) xs ≡ true → rising_by f (f x) (without f k xs) ≡ true) → rising_by f b (cond t xs (x ∷ without f k xs)) ≡ true
      at true p ih = let q : b < f x = ltb-true b (f x) p.0 in rising_low b (f x) xs (omega arith) p.1
      at false p ih = join (ltb b (f x)) _ p.0 (ih p.1)

  pub rising_kept : (p : X → Bool) (b : ℕ) (xs : List X) → rising_by f b xs ≡ true → rising_by f b (filter p xs) ≡ true
  rising_kept p b [] h = refl
  rising_kept p b (x ∷ xs) h = at (p x) (both (ltb b (f x)) (rising_by f (f x) xs) h) (rising_kept p (f x) xs)
    where
      at : (t : Bool) → (ltb b (f x) ≡ true) × (rising_by f (f x) xs ≡ true) → (rising_by f (f x) xs ≡ true → rising_by f (f x) (filter p xs) ≡ true) → rising_by f b (cond t (x ∷ filter p xs) (filter p xs)) ≡ true
      at true q ih = join (ltb b (f x)) _ q.0 (ih q.1)
      at false q ih = let r : b < f x = ltb-true b (f x) q.0 in rising_low b (f x) (filter p xs) (omega arith) (ih q.1)

  pub rising_map : (h : X → X) → ((x : X) → f (h x) ≡ f x) → (b : ℕ) (xs : List X) → rising_by f b (map h xs) ≡ rising_by f b xs
  rising_map h e b [] = refl
  rising_map h e b (x ∷ xs) = ap (λ k. cond (ltb b k) (rising_by f k (map h xs)) false) (e x) ∙ ap (λ r. cond (ltb b (f x)) r false) (rising_map h e (f x) xs)

pub rising_push : (b : ℕ) (y : Item) (xs : List Item) → rising_by id_of b xs ≡ true → b < id_of y → all_below (id_of y) xs ≡ true → rising_by id_of b (xs ++ y ∷ []) ≡ true
rising_push b y [] h l a = join (ltb b (id_of y)) true (lt-ltb b (id_of y) l) refl
rising_push b y (x ∷ xs) h l a =
    let p = both (ltb b (id_of x)) (rising_by id_of (id_of x) xs) h in
    let q = both (ltb (id_of x) (id_of y)) (all_below (id_of y) xs) a in
    join (ltb b (id_of x)) _ p.0 (rising_push (id_of x) y xs p.1 (ltb-true (id_of x) (id_of y) q.0) q.1)

-- a tick keeps an item's id
pub ticked_id : (stands : ℕ → Option Standing) (x : Item) → id_of (ticked stands x) ≡ id_of x
ticked_id stands x = mode x.mode
  where
    offers : (t : Bool) (y z : Item) → id_of y ≡ id_of x → id_of z ≡ id_of x → id_of (cond t y z) ≡ id_of x
    offers true y z e h = e
    offers false y z e h = h

    counts : id_of (counted stands x) ≡ id_of x
    counts = offers (leb x.countdown 1) _ _ (offers (accepts x.last x.settings.filter (sample_of (stands x.identity.node))) _ _ refl refl) refl

    mode : (m : Mode) → id_of (by_mode m stands x) ≡ id_of x
    mode Disabled = refl
    mode Sampling = counts
    mode Reporting = counts

-- every key is above the bound
pub above : {X : Type 0} (f : X → ℕ) (b : ℕ) (xs : List X) (i : ℕ) (d : X) → rising_by f b xs ≡ true → i < length xs → b < f (get_or xs i d)
above f b [] i d h l = absurd (omega arith)
above f b (x ∷ xs) zero d h l = let p = both (ltb b (f x)) (rising_by f (f x) xs) h in ltb-true b (f x) p.0
above f b (x ∷ xs) (suc i) d h l =
    let p = both (ltb b (f x)) (rising_by f (f x) xs) h in
    let q : b < f x = ltb-true b (f x) p.0 in
    let r : f x < f (get_or xs i d) = above f (f x) xs i d p.1 (omega arith) in
    omega arith

-- in a list by rising key, what stands at a place is the first with its key
pub position_rising : {X : Type 0} (f : X → ℕ) (b : ℕ) (xs : List X) (i : ℕ) (d : X) → rising_by f b xs ≡ true → i < length xs → position f (f (get_or xs i d)) xs ≡ Some i
position_rising f b [] i d h l = absurd (omega arith)
position_rising f b (x ∷ xs) zero d h l = ap (λ t. cond t (Some 0) (option_map suc (position f (f x) xs))) (eq-eqb (f x) (f x) refl)
position_rising f b (x ∷ xs) (suc i) d h l =
    let p = both (ltb b (f x)) (rising_by f (f x) xs) h in
    let k : i < length xs = omega arith in
    let a : f x < f (get_or xs i d) = above f (f x) xs i d p.1 k in
    let n : eqb (f x) (f (get_or xs i d)) ≡ false = ne_eqb (f x) (f (get_or xs i d)) (λ e. omega (arith, e)) in
    ap (λ t. cond t (Some 0) (option_map suc (position f (f (get_or xs i d)) xs))) n ∙ ap (option_map suc) (position_rising f (f x) xs i d p.1 k)
