-- The figures at the edges of items.
use Rattle.std.specs.Prelude.{◌≡◌, ℕ, Bool, true, false, List, [], ◌∷◌, pos}
use Rattle.values.specs.declared.value.Kind.TheVariants as kind
use Rattle.values.specs.declared.checked.CheckedFilter.{CheckedFilter}
use Rattle.values.specs.Beyond.{exactly}
use Rattle.values.specs.Edges.{with_absolute, int}
use Rattle.values.specs.Ticks.{ticks_of}
use Rattle.items.specs.declared.waiting.Waiting.{Waiting}
use Rattle.items.specs.declared.item.Mode.TheVariants.{Reporting}
use Rattle.items.specs.Queue.{unmarked, marked, queued}
use Rattle.items.specs.Item.{Item, created, offered}

-- numbers queued one after the other
abbrev pub queued_all : ℕ → Bool → List Waiting → List ℕ → List Waiting
queued_all size oldest ws [] = ws
queued_all size oldest ws (n ∷ ns) = queued_all size oldest (queued size oldest ws (int (pos n))) ns

-- numbers sampled one after the other
abbrev pub offered_all : Item → List ℕ → Item
offered_all x [] = x
offered_all x (n ∷ ns) = offered_all (offered x (int (pos n))) ns

abbrev pub plainly : ℕ → Waiting
plainly n = unmarked (int (pos n))

abbrev pub with_mark : ℕ → Waiting
with_mark n = marked (plainly n)

-- a new reporting item under the filter, with room for eight samples
abbrev pub begun : CheckedFilter → Item
begun f = created (record { id = 1; subscription = 1; node = 1; kind = kind.Int32 }) (record { client_handle = 0; filter = f; interval = 1; discard_oldest = true }) 8 Reporting

abbrev pub EdgeFigures : Type 0
EdgeFigures =
    (queued_all 2 true [] (1 ∷ 2 ∷ 3 ∷ []) ≡ with_mark 2 ∷ plainly 3 ∷ [])
    × (queued_all 2 false [] (1 ∷ 2 ∷ 3 ∷ []) ≡ plainly 1 ∷ with_mark 3 ∷ [])
    × (queued_all 1 true [] (1 ∷ 2 ∷ []) ≡ with_mark 2 ∷ [])
    × (queued_all 1 false [] (1 ∷ 2 ∷ []) ≡ with_mark 2 ∷ [])
    × (ticks_of (pos 0) ≡ 1)
    × (ticks_of (pos 50) ≡ 1)
    × (ticks_of (pos 51) ≡ 2)
    × (ticks_of (pos 3000001) ≡ 60000)
    -- a sample is compared with the last queued one, not with the last sampled one
    × ((f : CheckedFilter) → f.filter ≡ with_absolute (exactly 10) → (offered_all (begun f) (100 ∷ 106 ∷ 112 ∷ [])).waiting ≡ plainly 100 ∷ plainly 112 ∷ [])
