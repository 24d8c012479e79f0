-- The laws over every run from a new engine.
use Rattle.std.specs.Prelude.{◌≡◌, ℕ, ◌+◌, ◌≤◌, Bool, true, false, ◌⊎◌, List, [], ◌∷◌, ◌++◌, map, length, Some, None, Option, ◌==◌}
use Rattle.fifo.specs.Lists.{rest, without}
use Rattle.values.specs.declared.value.Sample.{Sample}
use Rattle.values.specs.declared.notification.Notification.{Notification}
use Rattle.values.specs.Change.{changed}
use Rattle.sources.specs.declared.source.Standing.{Standing}
use Rattle.sources.specs.Standings.{sample_of}
use Rattle.subscriptions.specs.declared.figures.Figures.{Figures}
use Rattle.subscriptions.specs.Facts.{live}
use Rattle.subscriptions.specs.Changes.{runs, counted_down, standing}
use Rattle.subscriptions.specs.Cycle.{due}
use Rattle.items.specs.Item.{Item}
use Rattle.items.specs.Keys.{id_of as item_id}
use Rattle.item_table.specs.Turn.{any_waits}
use Rattle.messages.specs.declared.response.Response.{Response}
use Rattle.messages.specs.Responses.{notifications_shown}
use Rattle.model.specs.State.{State, new_state}
use Rattle.model.specs.Steps.{Event, Joined, Started, Sampled, Sent}
use Rattle.model.specs.Tick.{Shared, passes, passes_all, shared_of, sampled_state, enabled_mode}
use Rattle.model.specs.Sound.{In}
use Rattle.laws.specs.Runs.{Call, CreateSubscription, ModifySubscription, SetPublishingMode, DeleteSubscription, CreateItem, ModifyItem, DeleteItem, SetMonitoringMode, Publish, Republish, Tick, Scene, Done, called, final, responses, events, asked, shows, answered, deleted}

-- 1. The handles in all responses, in order, followed by those still queued, are exactly the handles of the accepted Publish
-- calls, in order.
abbrev pub handle_of : Response → ℕ
handle_of r = r.handle

abbrev pub InOrder : ℕ → List Scene → Type 0
InOrder first scenes = map handle_of (responses (new_state first) scenes) ++ (final (new_state first) scenes).requests ≡ asked (new_state first) scenes

-- 2. A cycle in which a subscription is due ends with its message sent or with it on the late list. Due as the cycle finds it:
-- after this tick's sampling and the cycles of the subscriptions before it, with quiet one more.
abbrev pub DueIn : Figures → Shared → Type 0
DueIn f q = due (any_waits f.id q.items) (standing f.phase (f.quiet + 1) f.idle f) ≡ true

-- a response of the cycle, and so of the tick, shows its id; or it is on the late list after the cycle, and so after the tick
abbrev pub HeardIn : ℕ → List Response → List ℕ → Type 0
HeardIn id rs late = (shows id rs ≡ true) ⊎ In id late

-- in an accepted tick on the state s, of each subscription whose countdown comes to 0: fs are the ones before it
abbrev pub HeardBy : (ℕ → Option Standing) → State → Done → Type 0
HeardBy stands s d =
    (fs : List Figures) (f : Figures) (gs : List Figures) → s.subscriptions ≡ fs ++ f ∷ gs →
    live f.phase ≡ true → runs f ≡ true → DueIn (counted_down f) (passes_all fs (shared_of (sampled_state stands s))).shared →
    HeardIn f.id (passes f (passes_all fs (shared_of (sampled_state stands s))).shared).responses (passes f (passes_all fs (shared_of (sampled_state stands s))).shared).shared.late
    × HeardIn f.id d.responses d.state.late

abbrev pub Heard : ℕ → List Scene → Type 0
Heard first scenes =
    (before : List Scene) (stands : ℕ → Option Standing) (room : ℕ) (after : List Scene) → scenes ≡ before ++ record { stands = stands; call = Tick room } ∷ after →
    (called (final (new_state first) before) (record { stands = stands; call = Tick room })).accepted ≡ true →
    HeardBy stands (final (new_state first) before) (called (final (new_state first) before) (record { stands = stands; call = Tick room }))

-- 3. The fourth accepted Publish call after each joining of the late list, rejoining included, is at the latest answered by the
-- subscription, unless it is deleted before.
abbrev pub Fourth : ℕ → List Scene → Type 0
Fourth first scenes =
    (before : List Scene) (c : Scene) (later after : List Scene) (id : ℕ) → scenes ≡ (before ++ c ∷ later) ++ after →
    In (Joined id) (called (final (new_state first) before) c).events →
    4 ≤ length (asked (called (final (new_state first) before) c).state later) →
    (deleted id (called (final (new_state first) before) c).state later ≡ true) ⊎ (answered id (called (final (new_state first) before) c).state later ≡ true)

-- 4. Let an item not disabled have been sampled since its latest creation, modification or enabling, with nothing waiting. Then a
-- sample was sent for it since, and the last one sent and the source's at its latest sampling show no change under its filter.

-- what is known of an item since its latest start: the last sample taken, and the last one sent
pub record Since : Type 0 where
  pub sampled : Option Sample
  pub sent : Option Sample

abbrev pub nothing : Since
nothing = record { sampled = None; sent = None }

abbrev pub only_if : Bool → Since → Since → Since
only_if true new old = new
only_if false new old = old

abbrev pub heard_of : ℕ → Since → Event → Since
heard_of id t (Joined s) = t
heard_of id t (Started x) = only_if (x == id) nothing t
heard_of id t (Sampled x v) = only_if (x == id) (record { sampled = Some v; sent = t.sent }) t
heard_of id t (Sent x n) = only_if (x == id) (record { sampled = t.sampled; sent = Some n.sample }) t

abbrev pub since_start : ℕ → Since → List Event → Since
since_start id t [] = t
since_start id t (e ∷ es) = since_start id (heard_of id t e) es

-- the last sample sent shows no change against v, in either order
abbrev pub Shown : Item → Option Sample → Sample → Type 0
Shown x None v = ⊥
Shown x (Some u) v = (changed x.settings.filter.filter u v ≡ false) × (changed x.settings.filter.filter v u ≡ false)

abbrev pub UpToDate : ℕ → List Scene → Type 0
UpToDate first scenes =
    (x : Item) (v : Sample) → In x (final (new_state first) scenes).items → enabled_mode x.mode ≡ true → x.waiting ≡ [] →
    (since_start (item_id x) nothing (events (new_state first) scenes)).sampled ≡ Some v →
    Shown x (since_start (item_id x) nothing (events (new_state first) scenes)).sent v

-- The events are what the host sees.

-- the notifications in all responses, in order, are those of the sent events
abbrev pub sent_notifications : List Event → List Notification
sent_notifications [] = []
sent_notifications (Joined s ∷ es) = sent_notifications es
sent_notifications (Started x ∷ es) = sent_notifications es
sent_notifications (Sampled x v ∷ es) = sent_notifications es
sent_notifications (Sent x n ∷ es) = n ∷ sent_notifications es

abbrev pub all_are_shown : List Response → List Notification
all_are_shown [] = []
all_are_shown (r ∷ rs) = notifications_shown r ++ all_are_shown rs

abbrev pub Notified : ℕ → List Scene → Type 0
Notified first scenes = all_are_shown (responses (new_state first) scenes) ≡ sent_notifications (events (new_state first) scenes)

-- a sampled event carries what the source shows for the item's node
abbrev pub FromSource : ℕ → List Scene → Type 0
FromSource first scenes =
    (before : List Scene) (c : Scene) (after : List Scene) (id : ℕ) (v : Sample) → scenes ≡ before ++ c ∷ after →
    In (Sampled id v) (called (final (new_state first) before) c).events →
    (x : Item) × In x (final (new_state first) before).items × (item_id x ≡ id) × (v ≡ sample_of (c.stands x.identity.node))

-- the late list after a call is the one before, less those who left, then those who joined
abbrev pub joined_ids : List Event → List ℕ
joined_ids [] = []
joined_ids (Joined s ∷ es) = s ∷ joined_ids es
joined_ids (Started x ∷ es) = joined_ids es
joined_ids (Sampled x v ∷ es) = joined_ids es
joined_ids (Sent x n ∷ es) = joined_ids es

-- an accepted Publish takes the first, and a deletion its subscription
abbrev pub staying : Bool → Call → List ℕ → List ℕ
staying true (Publish handle acks room places) late = rest late
staying true (DeleteSubscription id room) late = without (λ n. n) id late
staying true (CreateSubscription p enabled) late = late
staying true (ModifySubscription id p) late = late
staying true (SetPublishingMode id enabled) late = late
staying true (CreateItem id node mode p) late = late
staying true (ModifyItem id item p) late = late
staying true (DeleteItem id item) late = late
staying true (SetMonitoringMode id item mode) late = late
staying true (Republish id n) late = late
staying true (Tick room) late = late
staying false c late = late

abbrev pub LateList : ℕ → List Scene → Type 0
LateList first scenes =
    (before : List Scene) (c : Scene) (after : List Scene) → scenes ≡ before ++ c ∷ after →
    (called (final (new_state first) before) c).state.late
    ≡ staying (called (final (new_state first) before) c).accepted c.call (final (new_state first) before).late ++ joined_ids (called (final (new_state first) before) c).events

-- all of them, of a run
pub record Lawful (first : ℕ) (scenes : List Scene) : Type 0 where
  pub in_order : InOrder first scenes
  pub heard : Heard first scenes
  pub fourth : Fourth first scenes
  pub up_to_date : UpToDate first scenes
  pub notified : Notified first scenes
  pub from_source : FromSource first scenes
  pub late_list : LateList first scenes

abbrev pub EveryRun : Type 0
EveryRun = (first : ℕ) (scenes : List Scene) → Lawful first scenes
