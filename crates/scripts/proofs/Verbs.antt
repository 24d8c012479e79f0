-- The verbs and their texts.
use Rattle.std.proofs.Common.{◌≡◌, ℕ, Bool, true, false, cond, List, [], ◌∷◌, map, Some, None, Option, Bor, refl}
use Rattle.std.specs.List.{find}
use Rattle.std.specs.Option.{option_map}
use Rattle.script_words.specs.Texts.{is_text}
use Rattle.scripts.specs.declared.verb.Verb.{Verb}

-- with the texts read
abbrev pub plain : Bor (List ℕ) × Verb → List ℕ × Verb
plain e = (e.0.now, e.1)

pub found : (word : List ℕ) (es : List (Bor (List ℕ) × Verb)) → option_map (λ e. e.1) (find (λ e. is_text word e.0.now) es) ≡ option_map (λ e. e.1) (find (λ e. is_text word e.0) (map plain es))
found word [] = refl
found word (e ∷ es) = at (is_text word e.0.now) (found word es) where
  at : (b : Bool) → option_map (λ e. e.1) (find (λ e. is_text word e.0.now) es) ≡ option_map (λ e. e.1) (find (λ e. is_text word e.0) (map plain es))
      → option_map (λ e. e.1) (cond b (Some e) (find (λ e. is_text word e.0.now) es)) ≡ option_map (λ e. e.1) (cond b (Some (plain e)) (find (λ e. is_text word e.0) (map plain es)))
  at true h = refl
  at false h = h

pub read_of : (r : Option (Bor (Bor (List ℕ) × Verb))) → option_map (λ x. x.now.1) r ≡ option_map (λ e. e.1) (option_map (λ x. x.now) r)
read_of None = refl
read_of (Some x) = refl
