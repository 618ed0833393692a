-- The parts of a text: that they are found, and that there is one set of them at most.
use Rattle.std.{proofs.{lemmas.{Grind.common_steps, Str.Parse.digit_from_value, Bool.{false≢true, cond_both, Decides.nat_tests}, List.{take-append-drop, Sums.{take_while-cons, prefix_len-le-length}}, Option.same_Some}, Common.{rules, ◌≡◌, ℕ, ◌<◌, ◌≤◌, Bool, true, false, cond, List, [], ◌∷◌, ◌++◌, length, take, drop, ℤ, Option, Some, None, Result, Ok, Err, refl, sym, ap, ◌∙◌, subst, ◌↔◌, arith, eqb}}, specs.{Char.{is_ascii_digit, digit_value}, Int.IsInRange, Fmt.sign_text, List.prefix_len, Str.Parse.{AllDigits, IsNumeral, starts_with_minus}, Option.option_map}}
use Rattle.stn_text.proofs.Digits.{own}
use Rattle.stn_time.specs.{Text.{Parts, these_parts, point_text, HasParts, IsTimeForm, is_fine, millis_of, SpellsTime, IsTooFine, IsOutOfRange}, TimeOf.{is_numeral, fraction_of, parts_with, parts_of, time_of_found, time_of, is_within_horizon}, Time.IsWithinHorizon, declared.reading.TimeFault.{TimeFault, TheVariants.{Malformed, TooFine, OutOfRange}}}

-- a byte with a decimal digit's value is a digit, and the other way round
pub is_ascii_digit-from_value : (c : ℕ) → digit_value c < 10 → is_ascii_digit c ≡ true
is_ascii_digit-from_value c h = search rules

pub digit_value-from_digit : (c : ℕ) → is_ascii_digit c ≡ true → digit_value c < 10
digit_value-from_digit c h = grind arith

-- the digits in front are those before the first byte that is none
prefix_len-append : (whole tail : List ℕ) → AllDigits 10 whole → prefix_len is_ascii_digit tail ≡ 0 → prefix_len is_ascii_digit (whole ++ tail) ≡ length whole
prefix_len-append [] tail h e = e
prefix_len-append (c ∷ cs) tail h e =
    let digit = is_ascii_digit-from_value c h.0 in
    let more = prefix_len-append cs tail h.1 e in
    rw digit (omega (arith, more))

-- the front before the first byte that is no digit is all digits
AllDigits-front : (bytes : List ℕ) → AllDigits 10 (take (prefix_len is_ascii_digit bytes) bytes)
AllDigits-front [] = tt
AllDigits-front (c ∷ cs) = rw (take_while-cons is_ascii_digit c cs)
    (cond_both (is_ascii_digit c) _ _ (AllDigits 10) (λ digit. (digit_value-from_digit c digit, AllDigits-front cs)) (λ other. tt))

-- a point and digits are the fraction that they spell
fraction_of-point : {fraction : List ℕ} → AllDigits 10 fraction → fraction_of (point_text fraction) ≡ Some fraction
fraction_of-point h = search (rules, own)

-- one digit or more after a point
point-numeral : {digits : List ℕ} → is_numeral digits ≡ true → AllDigits 10 digits × (46 ∷ digits ≡ point_text digits)
point-numeral h = search (rules, own)

-- a fraction that is found is spelled by a point and its digits, or by nothing
point-fraction_of : {bytes fraction : List ℕ} → fraction_of bytes ≡ Some fraction → AllDigits 10 fraction × (bytes ≡ point_text fraction)
point-fraction_of e = search (rules, point-numeral)

-- the parts of digits followed by a point and digits
parts_with-text : {negative : Bool} {whole fraction : List ℕ} → IsNumeral 10 whole → AllDigits 10 fraction → parts_with negative (whole ++ point_text fraction) ≡ Some (these_parts negative whole fraction)
parts_with-text numeral digits = grind (arith, common_steps, prefix_len-append, fraction_of-point)

-- what parts that were found after the sign say of the bytes there
record HasBytes (negative : Bool) (bytes : List ℕ) (parts : Parts) : Type 0 where
  pub sign : parts.negative ≡ negative
  pub whole : IsNumeral 10 parts.whole
  pub fraction : AllDigits 10 parts.fraction
  pub bytes_are : bytes ≡ parts.whole ++ point_text parts.fraction

bytes-found : {negative : Bool} {bytes : List ℕ} {end : ℕ} {b : Bool} {o : Option (List ℕ)} {parts : Parts} → end ≤ length bytes → AllDigits 10 (take end bytes) → eqb end 0 ≡ b → fraction_of (drop end bytes) ≡ o → cond b None (option_map (λ (fraction : List ℕ). these_parts negative (take end bytes) fraction) o) ≡ Some parts → HasBytes negative bytes parts
bytes-found within digits none found e = search (rules, point-fraction_of, take-append-drop)

-- parts that are found have the text
bytes-parts_with : {negative : Bool} {bytes : List ℕ} {parts : Parts} → parts_with negative bytes ≡ Some parts → HasBytes negative bytes parts
bytes-parts_with {negative} {bytes} {parts} e = bytes-found (prefix_len-le-length is_ascii_digit bytes) (AllDigits-front bytes) refl refl e

parts_of-signed : (negative : Bool) (whole : List ℕ) {fraction : List ℕ} → IsNumeral 10 whole → AllDigits 10 fraction → parts_of (sign_text negative ++ (whole ++ point_text fraction)) ≡ Some (these_parts negative whole fraction)
parts_of-signed true whole numeral digits = search (rules, parts_with-text)
parts_of-signed false [] numeral digits = absurd (omega (arith, numeral.0))
parts_of-signed false (c ∷ cs) {fraction} numeral digits =
    let r : IsInRange 48 57 c = digit_from_value c numeral.1.0 in
    let no_minus : eqb c 45 ≡ false = grind (arith, nat_tests) in
    rw no_minus (parts_with-text numeral digits)

-- a text of the form has the parts that are found
pub parts_of-form : {text : List ℕ} {parts : Parts} → HasParts text parts → parts_of text ≡ Some parts
parts_of-form form = search (rules, parts_of-signed)

form-signed : {text : List ℕ} {b : Bool} {parts : Parts} → starts_with_minus text ≡ b → HasBytes b (cond b (drop 1 text) text) parts → HasParts text parts
form-signed minus h = search rules

-- a text in which parts are found has the form, with these parts
pub form-parts_of : (text : List ℕ) {parts : Parts} → parts_of text ≡ Some parts → HasParts text parts
form-parts_of text e = search (rules, form-signed, bytes-parts_with)

-- a text has one set of parts at most
pub same_parts : {text : List ℕ} {p q : Parts} → HasParts text p → HasParts text q → p ≡ q
same_parts {text} {p} {q} a b = same_Some p q (sym (parts_of-form a) ∙ parts_of-form b)

-- a text spells one number at most
pub same_millis : (text : List ℕ) (m n : ℤ) → SpellsTime text m → SpellsTime text n → m ≡ n
same_millis text m n a b = cc (same_parts a.form b.form)

within-is : {t : ℤ} → is_within_horizon t ≡ true → IsWithinHorizon t
within-is h = grind arith

is-within : {t : ℤ} → IsWithinHorizon t → is_within_horizon t ≡ true
is-within h = grind arith

-- the meaning of each answer
abbrev pub Means : List ℕ → Result ℤ TimeFault → Type 0
Means text (Ok t) = SpellsTime text t × IsWithinHorizon t
Means text (Err Malformed) = ¬ IsTimeForm text
Means text (Err TooFine) = IsTooFine text
Means text (Err OutOfRange) = IsOutOfRange text

means-found : (text : List ℕ) (o : Option Parts) → parts_of text ≡ o → Means text (time_of_found o)
means-found text None e = search (rules, parts_of-form)
means-found text (Some parts) e =
    let form = form-parts_of text e in
    cond_both (is_fine parts) _ _ (Means text)
    (λ fine.
    let spelled : SpellsTime text (millis_of parts) = record { parts = parts; form = form; fine = fine; number = refl } in
    cond_both (is_within_horizon (millis_of parts)) _ _ (Means text)
    (λ within. (spelled, within-is within))
    (λ beyond. record { millis = millis_of parts; spelled = spelled; beyond = λ h. false≢true (sym beyond ∙ is-within h) }))
    (λ coarse. record { parts = parts; form = form; too_fine = coarse })

-- the time of a text by the parts that were found
pub time_of-found : (text : List ℕ) (o : Option Parts) → parts_of text ≡ o → time_of text ≡ time_of_found o
unfolding time_of
time_of-found text o e = ap time_of_found e

-- each answer of `time_of` has its meaning
pub time_of-means : (text : List ℕ) → Means text (time_of text)
unfolding time_of
time_of-means text = means-found text (parts_of text) refl

-- each meaning has its answer
pub time_of-spells : {text : List ℕ} {t : ℤ} → SpellsTime text t → IsWithinHorizon t → time_of text ≡ Ok t
time_of-spells h w = grind (arith, parts_of-form, time_of-found)

pub time_of-too_fine : {text : List ℕ} → IsTooFine text → time_of text ≡ Err TooFine
time_of-too_fine h = grind (arith, parts_of-form, time_of-found)

pub time_of-out_of_range : {text : List ℕ} → IsOutOfRange text → time_of text ≡ Err OutOfRange
time_of-out_of_range h = grind (arith, parts_of-form, time_of-found)

-- what the clauses of `read` say of an answer that is the definition's
pub read-time : (text : List ℕ) (answer : Result ℤ TimeFault) → answer ≡ time_of text → (t : ℤ) → (answer ≡ Ok t) ↔ (SpellsTime text t × IsWithinHorizon t)
read-time text answer same t = (λ e. subst (Means text) (sym same ∙ e) (time_of-means text), λ h. same ∙ time_of-spells h.0 h.1)

pub read-malformed : {text : List ℕ} {answer : Result ℤ TimeFault} → answer ≡ time_of text → (answer ≡ Err Malformed) ↔ (¬ IsTimeForm text)
read-malformed same = search (rules, time_of-means)

pub read-too_fine : {text : List ℕ} {answer : Result ℤ TimeFault} → answer ≡ time_of text → (answer ≡ Err TooFine) ↔ IsTooFine text
read-too_fine same = search (rules, time_of-means, time_of-too_fine)

pub read-out_of_range : {text : List ℕ} {answer : Result ℤ TimeFault} → answer ≡ time_of text → (answer ≡ Err OutOfRange) ↔ IsOutOfRange text
read-out_of_range same = search (rules, time_of-means, time_of-out_of_range)
