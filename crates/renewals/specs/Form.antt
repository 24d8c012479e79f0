-- The form of a line, apart from how it is read.
use Rattle.std.specs.Prelude.{◌≡◌, ℕ, ◌+◌, ◌-◌, ◌*◌, ◌<◌, true, ◌⊎◌, List, [], ◌∷◌, ◌++◌, length, decimal, fold, Ok, Err, Some, None}
use Rattle.sources.specs.Table.{every}
use Rattle.renewals.specs.Line.{Line, entry_line, is_digit, is_blank}

-- bytes of one form, and then bytes of another
pub record Then (P Q : List ℕ → Type 0) (bytes : List ℕ) : Type 0 where
  pub front : List ℕ
  pub back : List ℕ
  pub is : bytes ≡ front ++ back
  pub before : P front
  pub behind : Q back

-- spaces and tabs, or nothing
abbrev pub Blanks : List ℕ → Type 0
Blanks bytes = every is_blank bytes ≡ true

-- at least one of them
abbrev pub Gap : List ℕ → Type 0
Gap bytes = Blanks bytes × (0 < length bytes)

-- the number that n becomes when digits are written behind it
abbrev pub number_after : ℕ → List ℕ → ℕ
number_after n digits = fold (λ m b. m * 10 + (b - 48)) n digits

-- the number in decimal digits, zeros in front allowed; it fits 32 bits
abbrev pub Number : ℕ → List ℕ → Type 0
Number n bytes = (every is_digit bytes ≡ true) × (0 < length bytes) × (number_after 0 bytes ≡ n) × (n < 4294967296)

-- nothing, or one carriage return
abbrev pub Ending : List ℕ → Type 0
Ending bytes = (bytes ≡ []) ⊎ (bytes ≡ 13 ∷ [])

abbrev pub BlankLine : List ℕ → Type 0
BlankLine = Then Blanks Ending

abbrev pub EntryLine : ℕ → ℕ → List ℕ → Type 0
EntryLine node day = Then Blanks (Then (Number node) (Then Gap (Then (Number day) BlankLine)))

-- a line says just what it has the form of
abbrev pub Says : List ℕ → Line → Type 0
Says bytes (Ok None) = BlankLine bytes
Says bytes (Ok (Some row)) = EntryLine row.node row.end_day bytes
Says bytes (Err e) = (BlankLine bytes → ⊥) × ((node day : ℕ) → EntryLine node day bytes → ⊥)

-- a node and a day written in decimal, with a space between them, are read back as they are
abbrev pub ReadsBack : List ℕ → Line → Type 0
ReadsBack bytes l = (node day : ℕ) → node < 4294967296 → day < 4294967296 → bytes ≡ decimal node ++ 32 ∷ decimal day → l ≡ entry_line node day
