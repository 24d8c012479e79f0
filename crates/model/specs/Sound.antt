-- What holds of the engine's state after every call.
use Rattle.std.specs.Prelude.{◌≡◌, ℕ, ◌<◌, ◌≤◌, Bool, true, false, ◌⊎◌, List, [], ◌∷◌, map, length, Some, None, filter, Option}
use Rattle.std.specs.List.{AllByRecursion}
use Rattle.fifo.specs.Lists.{none}
use Rattle.values.specs.declared.value.Sample.{Sample}
use Rattle.subscriptions.specs.declared.figures.Figures.{Figures}
use Rattle.subscriptions.specs.Facts.{live, prompt, Timely, Lasting, Numbered, Counted}
use Rattle.subscriptions.specs.Keys.{id_of}
use Rattle.items.specs.declared.waiting.Waiting.{Waiting}
use Rattle.items.specs.Item.{Item}
use Rattle.items.specs.Keys.{id_of as item_id}
use Rattle.item_table.specs.Rising.{rising_by}
use Rattle.messages.specs.Messages.{number_of}
use Rattle.retransmission.specs.Rows.{Kept, subscription_of}
use Rattle.model.specs.State.{State}

-- x stands in the list
abbrev pub In : {X : Type 0} → X → List X → Type 0
In x [] = ⊥
In x (y ∷ ys) = (y ≡ x) ⊎ In x ys

-- no number twice
abbrev pub Distinct : List ℕ → Type 0
Distinct [] = Unit {0}
Distinct (x ∷ xs) = (In x xs → ⊥) × Distinct xs

-- every element of the first list stands in the second
abbrev pub Within : List ℕ → List ℕ → Type 0
Within xs ys = (k : ℕ) → In k xs → In k ys

abbrev pub alive : Figures → Bool
alive f = live f.phase

-- the ids of the live subscriptions, in order
abbrev pub live_ids : List Figures → List ℕ
live_ids fs = map id_of (filter alive fs)

-- the bounds of a subscription's figures
abbrev pub Bounded : Figures → Type 0
Bounded f = Timely f × Lasting f × Numbered f × Counted f

-- on the late list exactly where late or ended; an ended one was idle for its lifetime
abbrev pub Placed : List ℕ → Figures → Type 0
Placed late f = (prompt f.phase ≡ true → In f.id late → ⊥) × (prompt f.phase ≡ false → In f.id late) × (live f.phase ≡ false → f.idle ≡ f.revised.lifetime)

-- the subscriptions, the requests and the late list
pub record Published (s : State) : Type 0 where
  -- at most four slots, by rising id, all given before
  pub few : length s.subscriptions ≤ 4
  pub rising : rising_by id_of 0 s.subscriptions ≡ true
  pub below : AllByRecursion (λ f. f.id < s.next) s.subscriptions
  pub bounded : AllByRecursion Bounded s.subscriptions
  -- the late list names occupied slots, each once
  pub once : Distinct s.late
  pub known : Within s.late (map id_of s.subscriptions)
  pub placed : AllByRecursion (Placed s.late) s.subscriptions
  -- no request is queued while a subscription is late, or where there is none
  pub calm : (s.late ≡ []) ⊎ (s.requests ≡ [])
  pub asked : none s.subscriptions ≡ true → s.requests ≡ []
  pub queued : length s.requests ≤ 8
  -- ids begin at 1
  pub given : 1 ≤ s.next

-- the sample of the newest waiting one
abbrev pub newest : List Waiting → Option Sample
newest [] = None
newest (w ∷ []) = Some w.sample
newest (w ∷ v ∷ ws) = newest (v ∷ ws)

-- where the item was sampled since its start and something waits, the newest waiting sample is the last queued one
abbrev pub Newest : Item → Type 0
Newest x = (v : Sample) → x.last ≡ Some v → (x.waiting ≡ []) ⊎ (newest x.waiting ≡ Some v)

-- the queue fits its size
abbrev pub Fitting : Item → Type 0
Fitting x = (1 ≤ x.size) × (x.size ≤ 8) × (length x.waiting ≤ x.size)

-- the items: at most 32, by rising id, all given before, each of a live subscription
pub record Monitored (s : State) : Type 0 where
  pub few : length s.items ≤ 32
  pub rising : rising_by item_id 0 s.items ≡ true
  pub below : AllByRecursion (λ x. item_id x < s.next) s.items
  pub owned : AllByRecursion (λ x. In x.identity.subscription (live_ids s.subscriptions)) s.items
  pub newest : AllByRecursion Newest s.items
  pub fitting : AllByRecursion Fitting s.items

-- the kept messages of a subscription: at most eight, no number twice, 1 to 16 notifications in each
abbrev pub Retained : Kept → Type 0
Retained row = (length row.messages ≤ 8) × Distinct (map number_of row.messages) × AllByRecursion (λ m. (1 ≤ m.count) × (m.count ≤ 16)) row.messages

-- the kept messages: a row for each live subscription, in order
pub record KeptMessages (s : State) : Type 0 where
  pub rows : map subscription_of s.kept ≡ live_ids s.subscriptions
  pub retained : AllByRecursion Retained s.kept

pub record Sound (s : State) : Type 0 where
  pub published : Published s
  pub monitored : Monitored s
  pub retained : KeptMessages s
