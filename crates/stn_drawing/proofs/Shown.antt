-- A time as it is printed.
use Rattle.std.{proofs.{Common.{rules, ◌≡◌, ℕ, ℤ, ◌/◌, ◌%◌, ◌^◌, ◌<◌, List, ◌++◌, codes, decimal}, lemmas.Fmt.decimal_digit}, specs.{Prelude.unsigned_abs, Int.is_negative, Fmt.sign_text}}
use Rattle.stn_time.{specs.Text.printed, proofs.Prints.decimal-whole_text}

-- the sign, the whole seconds, a point and three digits are the printed form
pub shown : (millis : ℤ) (size : ℕ) (sign : List ℕ) → size ≡ unsigned_abs millis → size < 2 ^ 64 → sign ≡ sign_text (is_negative millis)
    → sign ++ (decimal (size / 1000) ++ (codes "." ++ (decimal (size % 1000 / 100) ++ (decimal (size % 1000 / 10 % 10) ++ decimal (size % 1000 % 10))))) ≡ printed millis
unfolding printed
shown millis size sign is small signed = search (rules, decimal_digit, decimal-whole_text)
