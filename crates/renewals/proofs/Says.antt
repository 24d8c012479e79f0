-- A line that is read as something has the form of it.
use Rattle.std.proofs.Common.{◌≡◌, ℕ, ◌+◌, ◌-◌, ◌*◌, ◌<◌, Bool, true, false, cond, ltb, ◌⊎◌, List, [], ◌∷◌, ◌++◌, Some, None, Option, Ok, Err, decimal, fold, sym, refl, ap, ◌∙◌, subst, inl, inr, append-nil, zero-add, arith, rules}
use Rattle.std.proofs.lemmas.Bool.{ltb-true}
use Rattle.std.proofs.lemmas.Bool.Decides.{nat_tests}
use Rattle.std.proofs.lemmas.Str.Parse.{IsNumeralModel, numerals_by_fold}
use Rattle.std.proofs.lemmas.Fmt.{decimal_nonempty, digits_decimal, digits_value-decimal}
use Rattle.sources.specs.Table.{every}
use Rattle.sources.specs.declared.rows.Expiry.{Expiry}
use Rattle.renewals.specs.Line.{Line, State, unreadable, entry_line, is_digit, is_blank, in_node, in_end_day, line_of, next, reading}
use Rattle.renewals.specs.Form.{Then, Blanks, Gap, number_after, Number, Ending, BlankLine, EntryLine, Says, ReadsBack}
use Rattle.renewals.proofs.Steps.{at_start, at_node, at_gap, at_day, after_day, at_end, next_digit, next_blank, Byte, digit, blank, return, other, byte, stuck, behind_end}
use Rattle.renewals.proofs.Forms.{blank_reads, entry_reads}

moved : (s t : State) (x : ℕ) (xs : List ℕ) (m : Line) → next s x ≡ t → line_of (fold next s (x ∷ xs)) ≡ m → line_of (fold next t xs) ≡ m
moved s t x xs m e h = sym (ap (λ w. line_of (fold next w xs)) e) ∙ h

never : (xs : List ℕ) (m : Line) → line_of (fold next unreadable xs) ≡ m → (m ≡ unreadable → ⊥) → ⊥
never xs m e h = h (sym e ∙ ap line_of (stuck xs))

from_ended : (o : Option Expiry) (m : Line) (xs : List ℕ) → line_of (fold next (at_end o) xs) ≡ m → (m ≡ unreadable → ⊥) → (xs ≡ []) × (Ok o ≡ m)
from_ended o m [] e h = (refl, e)
from_ended o m (x ∷ xs) e h = absurd (h (sym e ∙ ap line_of (behind_end o x xs)))

-- ---- one more byte in front

more : (P P' Q : List ℕ → Type 0) (x : ℕ) (xs : List ℕ) → ((a : List ℕ) → P a → P' (x ∷ a)) → Then P Q xs → Then P' Q (x ∷ xs)
more P P' Q x xs f h = record { front = x ∷ h.front; back = h.back; is = ap (λ l. x ∷ l) h.is; before = f h.front h.before; behind = h.behind }

at_once : (P Q : List ℕ → Type 0) (xs : List ℕ) → P [] → Q xs → Then P Q xs
at_once P Q xs p q = record { front = []; back = xs; is = refl; before = p; behind = q }

blank_more : (x : ℕ) → is_blank x ≡ true → (a : List ℕ) → Blanks a → Blanks (x ∷ a)
blank_more x p a h = ap (λ w. cond w (every is_blank a) false) p ∙ h

gap_more : (x : ℕ) → is_blank x ≡ true → (a : List ℕ) → Blanks a → Gap (x ∷ a)
gap_more x p a h = (blank_more x p a h, omega arith)

-- digits that make v into n
abbrev Digits : ℕ → ℕ → List ℕ → Type 0
Digits v n bs = (every is_digit bs ≡ true) × (number_after v bs ≡ n) × (n < 4294967296)

digits_more : (x v n : ℕ) → is_digit x ≡ true → (a : List ℕ) → Digits (v * 10 + (x - 48)) n a → Digits v n (x ∷ a)
digits_more x v n p a h = (ap (λ w. cond w (every is_digit a) false) p ∙ h.0, h.1, h.2)

number_more : (x n : ℕ) → is_digit x ≡ true → (a : List ℕ) → Digits (x - 48) n a → Number n (x ∷ a)
number_more x n p a h = (ap (λ w. cond w (every is_digit a) false) p ∙ h.0, omega arith, ap (λ m. number_after m a) (zero-add (x - 48)) ∙ h.1, h.2)

digit_small : (x : ℕ) → is_digit x ≡ true → x - 48 < 4294967296
digit_small x p = grind (arith, nat_tests)

no_more : BlankLine []
no_more = at_once Blanks Ending [] refl (inl refl)

returned : (x : ℕ) (xs : List ℕ) → x ≡ 13 → xs ≡ [] → BlankLine (x ∷ xs)
returned x xs p q = at_once Blanks Ending (x ∷ xs) refl (inr (λ i. p i ∷ q i))

-- ---- behind the day

abbrev Rest : ℕ → ℕ → List ℕ → Line → Type 0
Rest n d xs m = (m ≡ entry_line n d) × BlankLine xs

after_by : (n d x : ℕ) (xs : List ℕ) (m : Line) → Byte x → (line_of (fold next (after_day n d) xs) ≡ m → Rest n d xs m) → (m ≡ unreadable → ⊥) → line_of (fold next (after_day n d) (x ∷ xs)) ≡ m → Rest n d (x ∷ xs) m
after_by n d x xs m (digit p) ih h e = absurd (never xs m (moved (after_day n d) unreadable x xs m (next_digit (after_day n d) x p) e) h)
after_by n d x xs m (blank p) ih h e =
    let q = ih (moved (after_day n d) (after_day n d) x xs m (next_blank (after_day n d) x p) e) in
    (q.0, more Blanks Blanks Ending x xs (blank_more x p) q.1)
after_by n d x xs m (return p f) ih h e =
    let q = from_ended (Some (record { node = n; end_day = d })) m xs (moved (after_day n d) _ x xs m (f (after_day n d)) e) h in
    (sym q.1, returned x xs p q.0)
after_by n d x xs m (other f) ih h e = absurd (never xs m (moved (after_day n d) unreadable x xs m (f (after_day n d)) e) h)

from_after : (n d : ℕ) (xs : List ℕ) (m : Line) → (m ≡ unreadable → ⊥) → line_of (fold next (after_day n d) xs) ≡ m → Rest n d xs m
from_after n d [] m h e = (sym e, no_more)
from_after n d (x ∷ xs) m h e = after_by n d x xs m (byte x) (from_after n d xs m h) h e

-- ---- from the day on

abbrev DayRest : ℕ → ℕ → List ℕ → Line → Type 0
DayRest n v xs m = (d : ℕ) × (m ≡ entry_line n d) × Then (Digits v d) BlankLine xs

day_grown : (n v x : ℕ) (xs : List ℕ) (m : Line) → is_digit x ≡ true → ((w : ℕ) → w < 4294967296 → line_of (fold next (at_day n w) xs) ≡ m → DayRest n w xs m) → (m ≡ unreadable → ⊥) → (b : Bool) → ltb (v * 10 + (x - 48)) 4294967296 ≡ b → line_of (fold next (at_day n v) (x ∷ xs)) ≡ m → DayRest n v (x ∷ xs) m
day_grown n v x xs m p ih h true l e =
    let w = v * 10 + (x - 48) in
    let g : next (at_day n v) x ≡ at_day n w = next_digit (at_day n v) x p ∙ ap (λ b. in_end_day n (cond b (Ok w) unreadable)) l in
    let q = ih w (ltb-true w 4294967296 l) (moved (at_day n v) (at_day n w) x xs m g e) in
    (q.0, q.1, more (Digits w q.0) (Digits v q.0) BlankLine x xs (digits_more x v q.0 p) q.2)
day_grown n v x xs m p ih h false l e =
    let w = v * 10 + (x - 48) in
    let g : next (at_day n v) x ≡ unreadable = next_digit (at_day n v) x p ∙ ap (λ b. in_end_day n (cond b (Ok w) unreadable)) l in
    absurd (never xs m (moved (at_day n v) unreadable x xs m g e) h)

day_by : (n v x : ℕ) (xs : List ℕ) (m : Line) → v < 4294967296 → Byte x → ((w : ℕ) → w < 4294967296 → line_of (fold next (at_day n w) xs) ≡ m → DayRest n w xs m) → (m ≡ unreadable → ⊥) → line_of (fold next (at_day n v) (x ∷ xs)) ≡ m → DayRest n v (x ∷ xs) m
day_by n v x xs m s (digit p) ih h e = day_grown n v x xs m p ih h (ltb (v * 10 + (x - 48)) 4294967296) refl e
day_by n v x xs m s (blank p) ih h e =
    let q = from_after n v xs m h (moved (at_day n v) (after_day n v) x xs m (next_blank (at_day n v) x p) e) in
    (v, q.0, at_once (Digits v v) BlankLine (x ∷ xs) (refl, refl, s) (more Blanks Blanks Ending x xs (blank_more x p) q.1))
day_by n v x xs m s (return p f) ih h e =
    let q = from_ended (Some (record { node = n; end_day = v })) m xs (moved (at_day n v) _ x xs m (f (at_day n v)) e) h in
    (v, sym q.1, at_once (Digits v v) BlankLine (x ∷ xs) (refl, refl, s) (returned x xs p q.0))
day_by n v x xs m s (other f) ih h e = absurd (never xs m (moved (at_day n v) unreadable x xs m (f (at_day n v)) e) h)

from_day : (n v : ℕ) (xs : List ℕ) (m : Line) → (m ≡ unreadable → ⊥) → v < 4294967296 → line_of (fold next (at_day n v) xs) ≡ m → DayRest n v xs m
from_day n v [] m h s e = (v, sym e, at_once (Digits v v) BlankLine [] (refl, refl, s) no_more)
from_day n v (x ∷ xs) m h s e = day_by n v x xs m s (byte x) (λ w. from_day n w xs m h) h e

-- ---- from the gap on

abbrev GapRest : ℕ → List ℕ → Line → Type 0
GapRest n xs m = (d : ℕ) × (m ≡ entry_line n d) × Then Blanks (Then (Number d) BlankLine) xs

gap_by : (n x : ℕ) (xs : List ℕ) (m : Line) → Byte x → (line_of (fold next (at_gap n) xs) ≡ m → GapRest n xs m) → (m ≡ unreadable → ⊥) → line_of (fold next (at_gap n) (x ∷ xs)) ≡ m → GapRest n (x ∷ xs) m
gap_by n x xs m (digit p) ih h e =
    let q = from_day n (x - 48) xs m h (digit_small x p) (moved (at_gap n) (at_day n (x - 48)) x xs m (next_digit (at_gap n) x p) e) in
    (q.0, q.1, at_once Blanks (Then (Number q.0) BlankLine) (x ∷ xs) refl (more (Digits (x - 48) q.0) (Number q.0) BlankLine x xs (number_more x q.0 p) q.2))
gap_by n x xs m (blank p) ih h e =
    let q = ih (moved (at_gap n) (at_gap n) x xs m (next_blank (at_gap n) x p) e) in
    (q.0, q.1, more Blanks Blanks (Then (Number q.0) BlankLine) x xs (blank_more x p) q.2)
gap_by n x xs m (return p f) ih h e =
    absurd (never xs m (moved (at_gap n) unreadable x xs m (f (at_gap n)) e) h)
gap_by n x xs m (other f) ih h e = absurd (never xs m (moved (at_gap n) unreadable x xs m (f (at_gap n)) e) h)

from_gap : (n : ℕ) (xs : List ℕ) (m : Line) → (m ≡ unreadable → ⊥) → line_of (fold next (at_gap n) xs) ≡ m → GapRest n xs m
from_gap n [] m h e = absurd (h (sym e))
from_gap n (x ∷ xs) m h e = gap_by n x xs m (byte x) (from_gap n xs m h) h e

-- ---- from the node on

abbrev NodeRest : ℕ → List ℕ → Line → Type 0
NodeRest v xs m = (n : ℕ) × (d : ℕ) × (m ≡ entry_line n d) × Then (Digits v n) (Then Gap (Then (Number d) BlankLine)) xs

node_grown : (v x : ℕ) (xs : List ℕ) (m : Line) → is_digit x ≡ true → ((w : ℕ) → w < 4294967296 → line_of (fold next (at_node w) xs) ≡ m → NodeRest w xs m) → (m ≡ unreadable → ⊥) → (b : Bool) → ltb (v * 10 + (x - 48)) 4294967296 ≡ b → line_of (fold next (at_node v) (x ∷ xs)) ≡ m → NodeRest v (x ∷ xs) m
node_grown v x xs m p ih h true l e =
    let w = v * 10 + (x - 48) in
    let g : next (at_node v) x ≡ at_node w = next_digit (at_node v) x p ∙ ap (λ b. in_node (cond b (Ok w) unreadable)) l in
    let q = ih w (ltb-true w 4294967296 l) (moved (at_node v) (at_node w) x xs m g e) in
    (q.0, q.1, q.2, more (Digits w q.0) (Digits v q.0) (Then Gap (Then (Number q.1) BlankLine)) x xs (digits_more x v q.0 p) q.3)
node_grown v x xs m p ih h false l e =
    let w = v * 10 + (x - 48) in
    let g : next (at_node v) x ≡ unreadable = next_digit (at_node v) x p ∙ ap (λ b. in_node (cond b (Ok w) unreadable)) l in
    absurd (never xs m (moved (at_node v) unreadable x xs m g e) h)

node_by : (v x : ℕ) (xs : List ℕ) (m : Line) → v < 4294967296 → Byte x → ((w : ℕ) → w < 4294967296 → line_of (fold next (at_node w) xs) ≡ m → NodeRest w xs m) → (m ≡ unreadable → ⊥) → line_of (fold next (at_node v) (x ∷ xs)) ≡ m → NodeRest v (x ∷ xs) m
node_by v x xs m s (digit p) ih h e = node_grown v x xs m p ih h (ltb (v * 10 + (x - 48)) 4294967296) refl e
node_by v x xs m s (blank p) ih h e =
    let q = from_gap v xs m h (moved (at_node v) (at_gap v) x xs m (next_blank (at_node v) x p) e) in
    (v, q.0, q.1, at_once (Digits v v) (Then Gap (Then (Number q.0) BlankLine)) (x ∷ xs) (refl, refl, s) (more Blanks Gap (Then (Number q.0) BlankLine) x xs (gap_more x p) q.2))
node_by v x xs m s (return p f) ih h e =
    absurd (never xs m (moved (at_node v) unreadable x xs m (f (at_node v)) e) h)
node_by v x xs m s (other f) ih h e = absurd (never xs m (moved (at_node v) unreadable x xs m (f (at_node v)) e) h)

from_node : (v : ℕ) (xs : List ℕ) (m : Line) → (m ≡ unreadable → ⊥) → v < 4294967296 → line_of (fold next (at_node v) xs) ≡ m → NodeRest v xs m
from_node v [] m h s e = absurd (h (sym e))
from_node v (x ∷ xs) m h s e = node_by v x xs m s (byte x) (λ w. from_node w xs m h) h e

-- ---- the whole line

abbrev Whole : List ℕ → Line → Type 0
Whole xs m = ((m ≡ (Ok None)) × BlankLine xs) ⊎ ((n : ℕ) × (d : ℕ) × (m ≡ entry_line n d) × EntryLine n d xs)

indented : (x : ℕ) (xs : List ℕ) (m : Line) → is_blank x ≡ true → Whole xs m → Whole (x ∷ xs) m
indented x xs m p (inl q) = inl (q.0, more Blanks Blanks Ending x xs (blank_more x p) q.1)
indented x xs m p (inr q) = inr (q.0, q.1, q.2, more Blanks Blanks (Then (Number q.0) (Then Gap (Then (Number q.1) BlankLine))) x xs (blank_more x p) q.3)

start_by : (x : ℕ) (xs : List ℕ) (m : Line) → Byte x → (line_of (fold next at_start xs) ≡ m → Whole xs m) → (m ≡ unreadable → ⊥) → line_of (fold next at_start (x ∷ xs)) ≡ m → Whole (x ∷ xs) m
start_by x xs m (digit p) ih h e =
    let q = from_node (x - 48) xs m h (digit_small x p) (moved at_start (at_node (x - 48)) x xs m (next_digit at_start x p) e) in
    inr (q.0, q.1, q.2, at_once Blanks (Then (Number q.0) (Then Gap (Then (Number q.1) BlankLine))) (x ∷ xs) refl (more (Digits (x - 48) q.0) (Number q.0) (Then Gap (Then (Number q.1) BlankLine)) x xs (number_more x q.0 p) q.3))
start_by x xs m (blank p) ih h e = indented x xs m p (ih (moved at_start at_start x xs m (next_blank at_start x p) e))
start_by x xs m (return p f) ih h e =
    let q = from_ended None m xs (moved at_start (at_end None) x xs m (f at_start) e) h in
    inl (sym q.1, returned x xs p q.0)
start_by x xs m (other f) ih h e = absurd (never xs m (moved at_start unreadable x xs m (f at_start) e) h)

from_start : (xs : List ℕ) (m : Line) → (m ≡ unreadable → ⊥) → line_of (fold next at_start xs) ≡ m → Whole xs m
from_start [] m h e = inl (sym e, no_more)
from_start (x ∷ xs) m h e = start_by x xs m (byte x) (from_start xs m h) h e

blank_readable : ◌≡◌ {A = Line} (Ok None) unreadable → ⊥
blank_readable e = let z : ◌≡◌ {A = ℕ} 0 1 = cc in omega arith

entry_readable : (n d : ℕ) → entry_line n d ≡ unreadable → ⊥
entry_readable n d e = let z : ◌≡◌ {A = ℕ} 0 1 = cc in omega arith

as_blank : (bs : List ℕ) → Whole bs (Ok None) → BlankLine bs
as_blank bs (inl q) = q.1
as_blank bs (inr q) = let e = q.2 in let z : ◌≡◌ {A = ℕ} 0 1 = cc in absurd (omega arith)

as_entry : (n d : ℕ) (bs : List ℕ) → Whole bs (entry_line n d) → EntryLine n d bs
as_entry n d bs (inl q) = let e = q.0 in let z : ◌≡◌ {A = ℕ} 0 1 = cc in absurd (omega arith)
as_entry n d bs (inr q) =
    let e = q.2 in
    let a : ◌≡◌ {A = Expiry} (record { node = q.0; end_day = q.1 }) (record { node = n; end_day = d }) = cc in
    subst (λ k. EntryLine k.node k.end_day bs) a q.3

says_by : (bs : List ℕ) (l : Line) → reading bs ≡ l → Says bs l
says_by bs (Ok None) e = as_blank bs (from_start bs (Ok None) blank_readable e)
says_by bs (Ok (Some row)) e = as_entry row.node row.end_day bs (from_start bs (Ok (Some row)) (entry_readable row.node row.end_day) e)
says_by bs (Err x) e = (λ b. blank_readable (sym (blank_reads bs b) ∙ e), λ n d g. entry_readable n d (sym (entry_reads n d bs g) ∙ e))

-- ---- what is written in decimal

own : IsNumeralModel (λ ds. every is_digit ds ≡ true) (number_after 0)
own = numerals_by_fold _ (search rules) number_after (search rules)

in_decimal : (n : ℕ) → n < 4294967296 → Number n (decimal n)
in_decimal n h = (digits_decimal own n (omega arith), decimal_nonempty n (omega arith), digits_value-decimal own n (omega arith), h)

reads_back : (n d : ℕ) → n < 4294967296 → d < 4294967296 → reading (decimal n ++ 32 ∷ decimal d) ≡ entry_line n d
reads_back n d h k =
    entry_reads n d (decimal n ++ 32 ∷ decimal d)
    (at_once Blanks (Then (Number n) (Then Gap (Then (Number d) BlankLine))) (decimal n ++ 32 ∷ decimal d) refl
    (record {
      front = decimal n;
      back = 32 ∷ decimal d;
      is = refl;
      before = in_decimal n h;
      behind = record {
        front = 32 ∷ [];
        back = decimal d;
        is = refl;
        before = (refl, omega arith);
        behind = record { front = decimal d; back = []; is = sym (append-nil (decimal d)); before = in_decimal d k; behind = no_more };
      };
    }))

pub back : (bs : List ℕ) → ReadsBack bs (reading bs)
back bs n d h k is = ap reading is ∙ reads_back n d h k

pub says : (bs : List ℕ) → Says bs (reading bs)
says bs = says_by bs (reading bs) refl
