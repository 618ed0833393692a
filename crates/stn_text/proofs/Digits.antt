-- Digits read one after the other.
use Rattle.std.{proofs.{Common.{rules, ◌≡◌, ℕ, true, false, ◌&&◌, List, length, Some, None, ◌<◌, ◌^◌, decimal, arith}, lemmas.{Bool.{cond-true, cond-false, and_left, and_right, and_from, Decides.nat_tests}, Fmt.{digits_decimal, digits_value-decimal, length-decimal-le, decimal_nonempty}, Str.Parse.{IsNumeralModel, numerals_by_value, tells_all_ascii_digits}}}, specs.{Prelude.{nat_le, nat_lt}, Str.{all_ascii_digits, Parse.digits_value}}}
use Rattle.stn_text.specs.Numbers.{number_of}

-- the two tests of digits agree
pub own : IsNumeralModel (λ ds. all_ascii_digits ds ≡ true) (digits_value 10)
own = numerals_by_value _ tells_all_ascii_digits

-- a word that has too few or too many bytes is no number
pub number_of-length : (word : List ℕ) → (nat_lt 0 (length word) && nat_le (length word) 5) ≡ false → number_of word ≡ None
unfolding number_of
number_of-length word e = cond-false _ _ _ (and_left _ _ e)

-- a word with another byte is no number
pub number_of-other : (word : List ℕ) → all_ascii_digits word ≡ false → number_of word ≡ None
unfolding number_of
number_of-other word e = cond-false _ _ _ (and_right _ _ e)

-- a word of digits alone
pub number_of-digits : (word : List ℕ) → (nat_lt 0 (length word) && nat_le (length word) 5) ≡ true → all_ascii_digits word ≡ true → number_of word ≡ Some (digits_value 10 word)
unfolding number_of
number_of-digits word e d = cond-true _ _ _ (and_from _ _ e d)

-- the decimal form of a number is a word that reads as the number
pub number_of-decimal : {n : ℕ} → n < 2 ^ 16 → number_of (decimal n) ≡ Some n
number_of-decimal {n} small =
    let wide : n < 2 ^ 64 = omega arith in
    let some = decimal_nonempty n wide in
    let short = length-decimal-le 5 n (omega arith) (omega arith) wide in
    search (rules, number_of-digits, nat_tests, digits_decimal, own, digits_value-decimal)
