-- A line that has a word.
use Rattle.std.proofs.Common.{◌≡◌, ℕ, false, true≢false, cond, eqb, List, [], ◌∷◌, length, drop, Err, Ok, None, Option, Result, Float, option_map, sym, ap, ◌∙◌}
use Rattle.scripts.specs.Arguments.{word_at}
use Rattle.scripts.specs.Commands.{Said, said, some_of, starting_with, command_of}
use Rattle.scripts.specs.Errors.{Answers}
use Rattle.scripts.specs.declared.error.ParseError.{ParseError}
use Rattle.scripts.specs.declared.error.ParseError.TheVariants as error
use Rattle.scripts.specs.declared.expected.Expected.{Expected}

pub fails : (e : ParseError) (s : Result Said Expected) → Answers said (Err e) s → Answers (option_map said) (Err e) (some_of s)
fails (error.Expected x) s h = ap some_of h
fails (error.Memory a) s h = tt

pub starts : (ws : List (List ℕ)) (first : List ℕ) (rest : List (List ℕ)) (other : Option Float) → first ≡ word_at ws 0 → rest ≡ drop 1 ws → eqb (length first) 0 ≡ false → some_of (starting_with first (first ∷ rest) other) ≡ command_of ws other
starts [] first rest other f r n = absurd (true≢false (ap (λ x. eqb (length x) 0) (sym f) ∙ n))
starts (w ∷ ws) first rest other f r n =
    ap (λ x. some_of (starting_with x (x ∷ rest) other)) f
    ∙ ap (λ x. some_of (starting_with w (w ∷ x) other)) r
    ∙ sym (ap (λ t. cond t (Ok None) (some_of (starting_with w (w ∷ ws) other))) (ap (λ x. eqb (length x) 0) (sym f) ∙ n))
