use Rattle.std.{proofs.{Common.{rules, ◌≡◌, ℕ, ◌^◌, ◌<◌, List, Option, Some, Result, decimal, sym, ◌∙◌}, lemmas.Option.none-some}, specs.Result.{OkIff, result_ok}}
use Rattle.stn_text.{specs.Numbers.number_of, proofs.Digits.number_of-decimal}
use Rattle.stn_text.proofs.numbers.read_decimal.Goals as goal

-- what is read of the decimal form of a number
read_as : {number : ℕ} {text : List ℕ} {read : Option ℕ} → read ≡ number_of text → text ≡ decimal number → number < 2 ^ 16 → read ≡ Some number
read_as {number} of is small = cc (number_of-decimal small)

-- what is read, as a number of 16 bits
narrow_as : {E : Type 0} (r : Result ℕ E) {number wide : ℕ} {text : List ℕ} {read : Option ℕ} → OkIff r (wide < 2 ^ 16) wide → read ≡ Some wide
    → read ≡ number_of text → text ≡ decimal number → number < 2 ^ 16 → result_ok r ≡ Some number
narrow_as r h found of is small = search (rules, read_as)

pub returns-in_err-read_number-clause-all : goal.returns-in_err-read_number-clause-all
returns-in_err-read_number-clause-all c number small is =
    absurd (none-some _ (sym c.in_err-read_number.was ∙ read_as c.read_number.ensures.value is small))

pub returns-in_err-number-clause-all : goal.returns-in_err-number-clause-all
returns-in_err-number-clause-all c number small is = search (rules, narrow_as)

pub returns-then-eq-clause-all : goal.returns-then-eq-clause-all
returns-then-eq-clause-all c number small is = search (rules, narrow_as)

pub returns-else-eq-clause-all : goal.returns-else-eq-clause-all
returns-else-eq-clause-all c number small is = search (rules, narrow_as)
