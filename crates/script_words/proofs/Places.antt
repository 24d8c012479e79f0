-- The place of the first byte with a property.
use Rattle.std.proofs.Common.{◌≡◌, ℕ, suc, ◌+◌, ◌<◌, ◌≤◌, Bool, true, false, cond, not, List, [], ◌∷◌, length, get_or, refl, sym, ◌∙◌, arith}
use Rattle.std.specs.List.{position_or_len}
use Rattle.std.proofs.lemmas.List.Sums.{position_or_len_is}
use Rattle.script_words.specs.Words.{place}

-- the library counts to the same place
counted : (p : ℕ → Bool) (bs : List ℕ) → position_or_len p bs ≡ place p bs
counted p [] = refl
counted p (b ∷ bs) = at (p b) (counted p bs) where
  at : (t : Bool) → position_or_len p bs ≡ place p bs → cond (not t) (1 + position_or_len p bs) 0 ≡ cond t 0 (suc (place p bs))
  at true e = refl
  at false e = omega arith

pub place_is : (p : ℕ → Bool) (bs : List ℕ) (i : ℕ) → i ≤ length bs → ((k : ℕ) → k < i → p (get_or bs k 0) ≡ false) → (i < length bs → p (get_or bs i 0) ≡ true) → i ≡ place p bs
place_is p bs i bound before found = sym (position_or_len_is p bs i 0 bound before found) ∙ counted p bs
