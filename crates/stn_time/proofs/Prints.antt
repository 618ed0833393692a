-- The printed form of a number of milliseconds spells that number.
use Rattle.std.{proofs.{lemmas.{Grind.common_steps, List.{length-map, append_assoc}, Fmt.{decimal_digit, decimal-digits_of}, Int.Digits.{digits_value_is, all_below_base_digits_of, number_digits_of}}, Common.{rules, ◌≡◌, ℕ, ◌+◌, ◌*◌, ◌/◌, ◌%◌, ◌^◌, ◌<◌, cond, List, [], ◌∷◌, ◌++◌, map, ℤ, pos, neg_ℤ, Ok, refl, sym, ap, ◌∙◌, arith, Result, is_ok, OnOk, codes}}, specs.{Prelude.unsigned_abs, Char.digit_value, Int.{is_negative, Digits.AllBelowBase}, Fmt.{decimal, sign_text}, Str.Parse.{AllDigits, IsNumeral, digits_value}}}
use Rattle.stn_time.{specs.{Text.{whole_text, three_digits, printed, these_parts, SpellsTime, thousandths_of}, TimeOf.time_of, Time.IsWithinHorizon}, proofs.Forms.time_of-spells}

-- the value of a digit's byte
digit_value-byte : {d : ℕ} → d < 10 → digit_value (48 + d) ≡ d
digit_value-byte h = grind arith

bytes-digits : (ds : List ℕ) → AllBelowBase 10 ds → AllDigits 10 (map (λ digit. 48 + digit) ds)
bytes-digits [] h = tt
bytes-digits (d ∷ ds) h = (rw (digit_value-byte h.0) h.0, bytes-digits ds h.1)

values-bytes : (ds : List ℕ) → AllBelowBase 10 ds → map digit_value (map (λ digit. 48 + digit) ds) ≡ ds
values-bytes [] h = refl
values-bytes (d ∷ ds) h = rw (digit_value-byte h.0) (ap (λ rest. d ∷ rest) (values-bytes ds h.1))

-- the whole seconds are a numeral of their number
pub whole_text-value : {n : ℕ} → IsNumeral 10 (whole_text n) × (digits_value 10 (whole_text n) ≡ n)
whole_text-value = grind (arith, common_steps, all_below_base_digits_of, length-map, bytes-digits, digits_value_is, values-bytes, number_digits_of)

-- three digits are digits, and their value is the number
pub three_digits-value : {n : ℕ} → n < 1000 → AllDigits 10 (three_digits n) × (thousandths_of (three_digits n) ≡ n)
three_digits-value h = grind (arith, digit_value-byte)

-- a sign and a size are the number
signed-size : {millis : ℤ} → millis ≡ cond (is_negative millis) (neg_ℤ (pos (unsigned_abs millis))) (pos (unsigned_abs millis))
signed-size = search rules

-- the printed form of each number spells it
pub spells-printed : (millis : ℤ) → SpellsTime (printed millis) millis
unfolding printed
spells-printed millis =
    let n = unsigned_abs millis in
    let whole = whole_text-value {n = (n / 1000)} in
    let digits = three_digits-value {n = (n % 1000)} (omega arith) in
    let size : 1000 * digits_value 10 (whole_text (n / 1000)) + thousandths_of (three_digits (n % 1000)) ≡ n = rw whole.1 (rw digits.1 (omega arith)) in
    record {
      parts = these_parts (is_negative millis) (whole_text (n / 1000)) (three_digits (n % 1000));
      form = record { whole = whole.0; fraction = digits.0; spelling = refl };
      fine = refl;
      number = signed-size ∙ ap (λ (size : ℕ). cond (is_negative millis) (neg_ℤ (pos size)) (pos size)) (sym size);
    }

-- a printed time reads as itself
pub time_of-printed : (millis : ℤ) → IsWithinHorizon millis → time_of (printed millis) ≡ Ok millis
time_of-printed millis within = search (rules, time_of-spells, spells-printed)

-- the whole seconds as the formatter of integers writes them
pub decimal-whole_text : (n : ℕ) → n < 2 ^ 64 → decimal n ≡ whole_text n
decimal-whole_text n small = grind (arith, decimal_digit, decimal-digits_of)

-- three pieces appended one after another are the printed form
pub appends-printed : {E : Type 0} (r : Result (Unit {0}) E) (millis : ℤ) (old sign whole rest one two three : List ℕ) → sign ≡ sign_text (is_negative millis) → whole ≡ decimal (unsigned_abs millis / 1000) → unsigned_abs millis / 1000 < 2 ^ 64 → rest ≡ codes "." ++ three_digits (unsigned_abs millis % 1000) → one ≡ old ++ sign → two ≡ one ++ whole → three ≡ cond (is_ok r) (two ++ rest) two → OnOk r (three ≡ old ++ printed millis)
unfolding printed
appends-printed r millis old sign whole rest one two three e f small g h i j = search (rules, decimal-whole_text, append_assoc)
