use Rattle.std.{proofs.Common.{rules, ◌≡◌, ◌↔◌, ℕ, List, Option, Some, IfSome, true, eqb, sym}, specs.{Fmt.decimal, Option.option_eq}}
use Rattle.stn_line.proofs.explanations.subject.Subject.has_name.Goals as goal

-- a word is that of a number where the number is read in it
found_is : (read : Option ℕ) (n : ℕ) (word : List ℕ) → IfSome read (λ m. word ≡ decimal m) → (word ≡ decimal n → read ≡ Some n)
    → (option_eq eqb read (Some n) ≡ true) ↔ (word ≡ decimal n)
found_is read n word found all = search rules

pub returns-in-Refusal : goal.returns-in-Refusal
returns-in-Refusal c =
    rw (sym c.as_bytes.ensures.value, c.in-Refusal.is, sym c.number.ensures, sym c.from.ensures, c.eq.ensures)
    (found_is c.read_decimal.result c.from.result c.as_bytes.result.now c.read_decimal.ensures.found (c.read_decimal.ensures.all c.from.result c.from.type_inv))
