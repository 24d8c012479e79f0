-- A line of the one form or the other is read as such.
use Rattle.std.proofs.Common.{◌≡◌, ℕ, ◌+◌, ◌-◌, ◌*◌, ◌<◌, ◌≤◌, Bool, true, cond, List, [], ◌∷◌, ◌++◌, None, Ok, fold, sym, refl, ap, ◌∙◌, inl, inr, zero-add, arith}
use Rattle.std.proofs.lemmas.Bool.{lt-ltb}
use Rattle.std.proofs.lemmas.List.Sums.{fold-append}
use Rattle.sources.specs.Table.{every}
use Rattle.renewals.specs.Line.{Line, State, unreadable, entry_line, is_digit, is_blank, in_node, in_end_day, line_of, next, reading}
use Rattle.renewals.specs.Form.{Then, Blanks, Gap, number_after, Number, Ending, BlankLine, EntryLine}
use Rattle.renewals.proofs.Steps.{at_start, at_node, at_gap, at_day, after_day, digit_to, blank_to, return_to, next_digit, next_blank, next_return}

every_parts : (p : ℕ → Bool) (x : ℕ) (xs : List ℕ) → every p (x ∷ xs) ≡ true → (p x ≡ true) × (every p xs ≡ true)
every_parts p x xs e = grind arith

-- a reading that blanks leave as it is
pub over_blanks : (s : State) → blank_to s ≡ s → (bs : List ℕ) → Blanks bs → fold next s bs ≡ s
over_blanks s e [] h = refl
over_blanks s e (b ∷ bs) h =
    let p = every_parts is_blank b bs h in
    ap (λ t. fold next t bs) (next_blank s b p.0 ∙ e) ∙ over_blanks s e bs p.1

-- a reading that a blank ends
pub over_gap : (s t : State) → blank_to s ≡ t → blank_to t ≡ t → (bs : List ℕ) → Gap bs → fold next s bs ≡ t
over_gap s t e f [] h = absurd (omega (arith, h.1))
over_gap s t e f (b ∷ bs) h =
    let p = every_parts is_blank b bs h.0 in
    ap (λ t. fold next t bs) (next_blank s b p.0 ∙ e) ∙ over_blanks t f bs p.1

pub number_ge : (n : ℕ) (bs : List ℕ) → n ≤ number_after n bs
number_ge n [] = omega arith
number_ge n (b ∷ bs) = omega (arith, number_ge (n * 10 + (b - 48)) bs)

-- a reading of a number, into which a digit goes where it fits
abbrev pub Grows : (ℕ → State) → Type 0
Grows f = (n d : ℕ) → n * 10 + d < 4294967296 → digit_to (f n) d ≡ f (n * 10 + d)

pub over_digits : (f : ℕ → State) → Grows f → (n : ℕ) (bs : List ℕ) → every is_digit bs ≡ true → number_after n bs < 4294967296 → fold next (f n) bs ≡ f (number_after n bs)
over_digits f g n [] h l = refl
over_digits f g n (b ∷ bs) h l =
    let p = every_parts is_digit b bs h in
    let m = n * 10 + (b - 48) in
    ap (λ t. fold next t bs) (next_digit (f n) b p.0 ∙ g n (b - 48) (omega (arith, number_ge m bs))) ∙ over_digits f g m bs p.1 l

-- a number, from a reading before it
pub over_number : (s : State) (f : ℕ → State) → ((d : ℕ) → digit_to s d ≡ f d) → Grows f → (n : ℕ) (bs : List ℕ) → Number n bs → fold next s bs ≡ f n
over_number s f e g n [] h = absurd (omega (arith, h.1))
over_number s f e g n (b ∷ bs) h =
    let p = every_parts is_digit b bs h.0 in
    let v : number_after (b - 48) bs ≡ n = ap (λ m. number_after m bs) (sym (zero-add (b - 48))) ∙ h.2 in
    ap (λ t. fold next t bs) (next_digit s b p.0 ∙ e (b - 48))
    ∙ over_digits f g (b - 48) bs p.1 (omega (arith, h.3, v))
    ∙ ap f v

grows_node : Grows at_node
grows_node n d l = ap (λ w. in_node (cond w (Ok (n * 10 + d)) unreadable)) (lt-ltb (n * 10 + d) 4294967296 l)

grows_day : (k : ℕ) → Grows (at_day k)
grows_day k n d l = ap (λ w. in_end_day k (cond w (Ok (n * 10 + d)) unreadable)) (lt-ltb (n * 10 + d) 4294967296 l)

-- over the front, and then over the back
pub over : (P Q : List ℕ → Type 0) (s t : State) (m : Line) → ((bs : List ℕ) → P bs → fold next s bs ≡ t) → ((bs : List ℕ) → Q bs → line_of (fold next t bs) ≡ m) → (bs : List ℕ) → Then P Q bs → line_of (fold next s bs) ≡ m
over P Q s t m f g bs h =
    ap (λ l. line_of (fold next s l)) h.is
    ∙ ap line_of (fold-append next s h.front h.back ∙ ap (λ r. fold next r h.back) (f h.front h.before))
    ∙ g h.back h.behind

over_end : (s : State) → line_of (return_to s) ≡ line_of s → (bs : List ℕ) → Ending bs → line_of (fold next s bs) ≡ line_of s
over_end s e bs (inl h) = ap (λ l. line_of (fold next s l)) h
over_end s e bs (inr h) = ap (λ l. line_of (fold next s l)) h ∙ ap line_of (next_return s) ∙ e

over_rest : (s : State) → blank_to s ≡ s → line_of (return_to s) ≡ line_of s → (bs : List ℕ) → BlankLine bs → line_of (fold next s bs) ≡ line_of s
over_rest s e f = over Blanks Ending s s (line_of s) (over_blanks s e) (over_end s f)

-- a blank or the end behind the day
behind_day : (n d : ℕ) (bs : List ℕ) → BlankLine bs → line_of (fold next (at_day n d) bs) ≡ entry_line n d
behind_day n d bs h = at h.front h.back h.is h.before h.behind where
  at : (a b : List ℕ) → bs ≡ a ++ b → Blanks a → Ending b → line_of (fold next (at_day n d) bs) ≡ entry_line n d
  at [] b e p q = ap (λ l. line_of (fold next (at_day n d) l)) e ∙ over_end (at_day n d) refl b q
  at (x ∷ a) b e p q = over Gap Ending (at_day n d) (after_day n d) (entry_line n d) (over_gap (at_day n d) (after_day n d) refl refl) (over_end (after_day n d) refl) bs (record { front = x ∷ a; back = b; is = e; before = (p, omega arith); behind = q })

pub blank_reads : (bs : List ℕ) → BlankLine bs → reading bs ≡ (Ok None)
blank_reads = over_rest at_start refl refl

pub entry_reads : (n d : ℕ) (bs : List ℕ) → EntryLine n d bs → reading bs ≡ entry_line n d
entry_reads n d =
    over Blanks _ at_start at_start (entry_line n d) (over_blanks at_start refl)
    (over (Number n) _ at_start (at_node n) (entry_line n d) (over_number at_start at_node (λ x. refl) grows_node n)
    (over Gap _ (at_node n) (at_gap n) (entry_line n d) (over_gap (at_node n) (at_gap n) refl refl)
    (over (Number d) BlankLine (at_gap n) (at_day n d) (entry_line n d) (over_number (at_gap n) (at_day n) (λ x. refl) (grows_day n) d)
    (behind_day n d))))
