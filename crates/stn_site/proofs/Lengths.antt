-- How long the parts of a report's lines are.
use Rattle.std.{proofs.{Common.{rules, ◌≡◌, ℕ, ◌+◌, ◌/◌, ◌^◌, ◌<◌, ◌≤◌, Bool, cond, List, ◌++◌, length, ℤ, Result, Ok, OnOk, refl, subst, arith, codes, length-append}, lemmas.{Int.ints, Fmt.length-decimal-le_wide}}, specs.{Prelude.unsigned_abs, Int.RustNames.FitsSigned, Fmt.decimal}}
use mir.Syntax.{w64}
use Rattle.stn_time.{specs.{Text.{whole_text, printed}, Time.IsWithinHorizon, TimeOf.time_of}, proofs.{Forms.read-time, Prints.decimal-whole_text}}
use Rattle.stn_net.specs.Event.{event_text}

-- a number of 16 bits, and one of 32
pub short_number : (n : ℕ) → n < 2 ^ 16 → length (decimal n) ≤ 5
short_number n small = search (rules, length-decimal-le_wide)

whole_length : (n : ℕ) → n < 10 ^ 16 → length (whole_text n) ≤ 16
whole_length n small = subst (λ text. length text ≤ 16) (decimal-whole_text n (omega arith)) (length-decimal-le_wide 16 n (omega arith) (omega arith) (omega arith))

-- a number of milliseconds
millis_length : (millis : ℤ) → unsigned_abs millis < 2 ^ 63 + 1 → length (printed millis) ≤ 21
unfolding printed
millis_length millis small = search (rules, whole_length, length-append)

fits_size : (millis : ℤ) → FitsSigned w64 millis → unsigned_abs millis < 2 ^ 63 + 1
fits_size millis fits = omega (arith, ints)

-- one of 64 bits
pub sum_length : (millis : ℤ) → FitsSigned w64 millis → length (printed millis) ≤ 21
sum_length millis fits = millis_length millis (fits_size millis fits)

within_size : (millis : ℤ) → IsWithinHorizon millis → unsigned_abs millis < 2 ^ 63 + 1
within_size millis within = omega (arith, ints)

-- a time, which reads as itself
pub time_length : (time : ℤ) → time_of (printed time) ≡ Ok time → length (printed time) ≤ 21
time_length time reads = millis_length time (within_size time ((read-time (printed time) (time_of (printed time)) refl time).0 reads).1)

event_cases : (event : ℕ) → event ≤ 512 → (origin start : Bool)
    → length (cond origin (codes "z") (cond start (codes "s" ++ decimal (event / 2 + 1)) (codes "e" ++ decimal (event / 2)))) ≤ 6
event_cases event few origin start = search (rules, short_number)

-- an event
pub event_length : (event : ℕ) → event ≤ 512 → length (event_text event) ≤ 6
event_length event few = search (rules, event_cases)

-- what a text of so many bytes adds
pub length_appended : (new old text : List ℕ) → new ≡ old ++ text → length new ≡ length old + length text
length_appended new old text is = cc (length-append old text)

pub length_appended_ok : {E : Type 0} (r : Result (Unit {0}) E) (new old text : List ℕ) (most : ℕ) → OnOk r (new ≡ old ++ text) → length text ≤ most → OnOk r (length new ≤ length old + most)
length_appended_ok r new old text most is short = search (rules, length_appended)
