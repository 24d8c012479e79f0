-- A line, word by word.
use Rattle.std.proofs.Common.{◌≡◌, ℕ, ◌+◌, ◌<◌, Bool, true, false, cond, not, List, [], ◌∷◌, ◌++◌, length, get_or, take, drop, sym, refl, ap, ◌∙◌, append_assoc, append-nil, add-zero, arith}
use Rattle.std.specs.List.{prefix_len, take_while}
use Rattle.std.proofs.lemmas.List.{length-drop, get_or-drop}
use Rattle.std.proofs.lemmas.List.Sums.{prefix_len_stops}
use Rattle.std.proofs.lemmas.Grind.{common_steps}
use Rattle.script_words.specs.Words.{is_blank, is_visible, ended, words_from, words_in}

drop_after : (n x : ℕ) (xs : List ℕ) → drop (1 + n) (x ∷ xs) ≡ drop n xs
drop_after n x xs = grind (arith, common_steps)

take_after : (n x : ℕ) (xs : List ℕ) → take (1 + n) (x ∷ xs) ≡ x ∷ take n xs
take_after n x xs = grind (arith, common_steps)

pub skips_blanks : (bs : List ℕ) → words_in bs ≡ words_in (drop (prefix_len is_blank bs) bs)
skips_blanks [] = refl
skips_blanks (b ∷ bs) = at (is_blank b) refl (skips_blanks bs) where
  at : (t : Bool) → is_blank b ≡ t → words_in bs ≡ words_in (drop (prefix_len is_blank bs) bs)
      → cond t (words_in bs) (words_from (b ∷ []) bs) ≡ words_in (drop (cond t (1 + prefix_len is_blank bs) 0) (b ∷ bs))
  at true e ih = ih ∙ sym (ap words_in (drop_after (prefix_len is_blank bs) b bs))
  at false e ih = sym (ap (λ t. cond t (words_in bs) (words_from (b ∷ []) bs)) e)

-- a word that was begun goes on to the next blank
goes_on : (begun bs : List ℕ) → words_from begun bs ≡ ended (begun ++ take_while is_visible bs) (words_in (drop (prefix_len is_visible bs) bs))
goes_on begun [] = ap (λ w. ended w []) (sym (append-nil begun))
goes_on begun (b ∷ bs) = at (is_blank b) refl (goes_on (begun ++ b ∷ []) bs) where
  at : (t : Bool) → is_blank b ≡ t
      → words_from (begun ++ b ∷ []) bs ≡ ended ((begun ++ b ∷ []) ++ take_while is_visible bs) (words_in (drop (prefix_len is_visible bs) bs))
      → cond t (ended begun (words_from [] bs)) (words_from (begun ++ b ∷ []) bs) ≡ ended (begun ++ take (cond (not t) (1 + prefix_len is_visible bs) 0) (b ∷ bs)) (words_in (drop (cond (not t) (1 + prefix_len is_visible bs) 0) (b ∷ bs)))
  at true e ih = ap (λ w. ended w (words_from [] bs)) (sym (append-nil begun)) ∙ sym (ap (λ t. ended (begun ++ []) (cond t (words_from [] bs) (words_from (b ∷ []) bs))) e)
  at false e ih =
      ih
      ∙ ap (λ w. ended w (words_in (drop (prefix_len is_visible bs) bs))) (append_assoc begun (b ∷ []) (take_while is_visible bs) ∙ sym (ap (λ w. begun ++ w) (take_after (prefix_len is_visible bs) b bs)))
      ∙ sym (ap (λ r. ended (begun ++ take (1 + prefix_len is_visible bs) (b ∷ bs)) (words_in r)) (drop_after (prefix_len is_visible bs) b bs))

-- the first word, and the words behind it
pub first_is : (bs : List ℕ) (start n : ℕ) → prefix_len is_blank bs ≡ start → prefix_len is_visible (drop start bs) ≡ n → words_in bs ≡ ended (take n (drop start bs)) (words_in (drop n (drop start bs)))
first_is bs start n p q = skips_blanks bs ∙ ap (λ i. words_in (drop i bs)) p ∙ goes_on [] (drop start bs) ∙ ap (λ i. ended (take i (drop start bs)) (words_in (drop i (drop start bs)))) q

pub nonempty : (w : List ℕ) (ws : List (List ℕ)) → 0 < length w → ended w ws ≡ w ∷ ws
nonempty [] ws h = absurd (omega arith)
nonempty (b ∷ bs) ws h = refl

pub no_word : (bs rest : List ℕ) (start : ℕ) → prefix_len is_blank bs ≡ start → drop start bs ≡ rest → prefix_len is_visible rest ≡ 0 → words_in rest ≡ []
no_word bs [] start p d q = refl
no_word bs (b ∷ r) start p d q =
    let l : start < length bs = omega (arith, length-drop start bs, ap length d) in
    let e : get_or bs start 0 ≡ b = ap (λ n. get_or bs n 0) (sym (add-zero start)) ∙ sym (get_or-drop start bs 0 0) ∙ ap (λ xs. get_or xs 0 0) d in
    let v : is_blank b ≡ false = ap is_blank (sym e ∙ ap (λ n. get_or bs n 0) (sym p)) ∙ prefix_len_stops is_blank bs 0 (omega arith) in
    let n : 1 + prefix_len is_visible r ≡ 0 = sym (ap (λ t. cond (not t) (1 + prefix_len is_visible r) 0) v) ∙ q in
    absurd (omega arith)
