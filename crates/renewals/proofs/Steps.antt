-- What each byte does to a reading.
use Rattle.std.proofs.Common.{◌≡◌, ℕ, ◌+◌, ◌-◌, ◌<◌, Bool, length, drop, get_or, sym, true, false, cond, eqb, List, [], ◌∷◌, fold, Option, Ok, Err, refl, ap, ◌∙◌, arith}
use Rattle.std.proofs.lemmas.Bool.{eqb-true}
use Rattle.std.proofs.lemmas.Bool.Decides.{nat_tests}
use Rattle.sources.specs.declared.rows.Expiry.{Expiry}
use Rattle.std.proofs.lemmas.List.{at_drop_more}
use Rattle.renewals.specs.declared.line.Reading.{Reading}
use Rattle.renewals.specs.declared.line.Reading.TheVariants as reads
use Rattle.renewals.specs.Line.{State, unreadable, is_digit, is_blank, on_digit, on_blank, on_return, step, next}

abbrev pub at_start : State
at_start = Ok reads.Start

abbrev pub at_node : ℕ → State
at_node n = Ok (reads.Node n)

abbrev pub at_gap : ℕ → State
at_gap n = Ok (reads.Gap n)

abbrev pub at_day : ℕ → ℕ → State
at_day n d = Ok (reads.EndDay (record { node = n; end_day = d }))

abbrev pub after_day : ℕ → ℕ → State
after_day n d = Ok (reads.After (record { node = n; end_day = d }))

abbrev pub at_end : Option Expiry → State
at_end o = Ok (reads.Ended o)

-- what a digit, a blank and a carriage return lead to
abbrev pub digit_to : State → ℕ → State
digit_to (Ok s) d = on_digit s d
digit_to (Err e) d = Err e

abbrev pub blank_to : State → State
blank_to (Ok s) = on_blank s
blank_to (Err e) = Err e

abbrev pub return_to : State → State
return_to (Ok s) = on_return s
return_to (Err e) = Err e

pub next_digit : (s : State) (b : ℕ) → is_digit b ≡ true → next s b ≡ digit_to s (b - 48)
next_digit (Ok s) b e = grind (arith, nat_tests)
next_digit (Err x) b e = refl

pub next_blank : (s : State) (b : ℕ) → is_blank b ≡ true → next s b ≡ blank_to s
next_blank (Ok s) b e = grind (arith, nat_tests)
next_blank (Err x) b e = refl

next_other : (s : State) (b : ℕ) → is_digit b ≡ false → is_blank b ≡ false → next s b ≡ cond (eqb b 13) (return_to s) unreadable
next_other (Ok s) b d e = grind (arith, nat_tests)
next_other (Err x) b d e = grind (arith, nat_tests)

pub next_return : (s : State) → next s 13 ≡ return_to s
next_return (Ok s) = refl
next_return (Err e) = refl

-- what a byte is, and what it does
pub data Byte (b : ℕ) : Type 0 where
  digit : is_digit b ≡ true → Byte b
  blank : is_blank b ≡ true → Byte b
  return : b ≡ 13 → ((s : State) → next s b ≡ return_to s) → Byte b
  other : ((s : State) → next s b ≡ unreadable) → Byte b

byte_by : (b : ℕ) (p q r : Bool) → is_digit b ≡ p → is_blank b ≡ q → eqb b 13 ≡ r → Byte b
byte_by b true q r d e f = digit d
byte_by b false true r d e f = blank e
byte_by b false false true d e f = return (eqb-true b 13 f) (λ s. next_other s b d e ∙ ap (λ w. cond w (return_to s) unreadable) f)
byte_by b false false false d e f = other (λ s. next_other s b d e ∙ ap (λ w. cond w (return_to s) unreadable) f)

pub byte : (b : ℕ) → Byte b
byte b = byte_by b (is_digit b) (is_blank b) (eqb b 13) refl refl refl

-- what cannot be read stays so
pub stuck : (bs : List ℕ) → fold next unreadable bs ≡ unreadable
stuck [] = refl
stuck (b ∷ bs) = stuck bs

-- a byte at which the line cannot be read on
pub stops : (xs : List ℕ) (i : ℕ) (s : Reading) → i < length xs → fold next (Ok s) (drop i xs) ≡ fold next at_start xs → step s (get_or xs i 0) ≡ unreadable → fold next at_start xs ≡ unreadable
stops xs i s l e u = sym e ∙ at_drop_more (fold next (Ok s)) xs i 0 l ∙ ap (λ t. fold next t (drop (i + 1) xs)) u ∙ stuck (drop (i + 1) xs)

ended_by : (o : Option Expiry) (b : ℕ) → Byte b → next (at_end o) b ≡ unreadable
ended_by o b (digit e) = next_digit (at_end o) b e
ended_by o b (blank e) = next_blank (at_end o) b e
ended_by o b (return e f) = f (at_end o)
ended_by o b (other f) = f (at_end o)

pub behind_end : (o : Option Expiry) (b : ℕ) (bs : List ℕ) → fold next (at_end o) (b ∷ bs) ≡ unreadable
behind_end o b bs = ap (λ s. fold next s bs) (ended_by o b (byte b)) ∙ stuck bs
