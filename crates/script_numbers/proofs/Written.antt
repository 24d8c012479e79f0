-- What is written in decimal is read back.
use Rattle.std.proofs.Common.{◌≡◌, ℕ, ◌+◌, ◌-◌, ◌*◌, ◌<◌, ◌≤◌, Bool, true, false, cond, ◌&&◌, eqb, ltb, leb, List, [], ◌∷◌, length, Some, None, decimal, fold, refl, ap, ◌∙◌, arith, rules}
use Rattle.std.specs.Str.{all_ascii_digits}
use Rattle.std.proofs.lemmas.Bool.{lt-ltb}
use Rattle.std.proofs.lemmas.Bool.Decides.{nat_tests}
use Rattle.std.proofs.lemmas.Str.Parse.{IsNumeralModel, numerals_by_fold}
use Rattle.std.proofs.lemmas.Fmt.{decimal_nonempty, digits_decimal, digits_value-decimal}
use Rattle.script_numbers.specs.Numbers.{digit_of, with_digit, grown, below32, number_of}

abbrev number_after : ℕ → List ℕ → ℕ
number_after n [] = n
number_after n (b ∷ bs) = number_after (n * 10 + (b - 48)) bs

number_ge : (n : ℕ) (bs : List ℕ) → n ≤ number_after n bs
number_ge n [] = omega arith
number_ge n (b ∷ bs) = omega (arith, number_ge (n * 10 + (b - 48)) bs)

is_digit : ℕ → Bool
is_digit b = leb 48 b && leb b 57

digit_is : (b : ℕ) → 48 ≤ b → b ≤ 57 → digit_of b ≡ Some (b - 48)
digit_is b l m = search rules

digits_parts : (b : ℕ) (bs : List ℕ) → all_ascii_digits (b ∷ bs) ≡ true → (48 ≤ b) × (b ≤ 57) × (all_ascii_digits bs ≡ true)
digits_parts b bs e = grind (arith, nat_tests)

one_more : (n b : ℕ) → 48 ≤ b → b ≤ 57 → n * 10 + (b - 48) < 18446744073709551616 → grown 10 (Some n) b ≡ Some (n * 10 + (b - 48))
one_more n b l m h =
    ap (with_digit 10 n) (digit_is b l m)
    ∙ ap (λ t. cond t (cond (ltb (n * 10 + (b - 48)) 18446744073709551616) (Some (n * 10 + (b - 48))) None) None) (lt-ltb (b - 48) 10 (omega arith))
    ∙ ap (λ t. cond t (Some (n * 10 + (b - 48))) None) (lt-ltb (n * 10 + (b - 48)) 18446744073709551616 h)

over_digits : (n : ℕ) (bs : List ℕ) → all_ascii_digits bs ≡ true → number_after n bs < 18446744073709551616 → fold (grown 10) (Some n) bs ≡ Some (number_after n bs)
over_digits n [] d h = refl
over_digits n (b ∷ bs) d h =
    let p = digits_parts b bs d in
    let m = n * 10 + (b - 48) in
    ap (λ t. fold (grown 10) t bs) (one_more n b p.0 p.1 (omega (arith, number_ge m bs))) ∙ over_digits m bs p.2 h

own : IsNumeralModel (λ ds. all_ascii_digits ds ≡ true) (number_after 0)
own = numerals_by_fold _ (search rules) number_after (search rules)

some_not_none : (bs : List ℕ) → 0 < length bs → eqb (length bs) 0 ≡ false
some_not_none bs h = grind (arith, nat_tests)

pub reads_back : (n : ℕ) → n < 4294967296 → number_of (decimal n) ≡ Some n
unfolding number_of
reads_back n h =
    let ds = decimal n in
    let v : number_after 0 ds ≡ n = digits_value-decimal own n (omega arith) in
    ap (λ t. below32 (cond t None (fold (grown 10) (Some 0) ds))) (some_not_none ds (decimal_nonempty n (omega arith)))
    ∙ ap below32 (over_digits 0 ds (digits_decimal own n (omega arith)) (omega arith) ∙ ap Some v)
    ∙ ap (λ t. cond t (Some n) None) (lt-ltb n 4294967296 h)
