use Rattle.std.proofs.{Common.{rules, arith, sym}, lemmas.Grind.common_steps}
use Rattle.stn_text.proofs.Digits.{number_of-length, number_of-other, number_of-digits}
use Rattle.stn_text.proofs.numbers.read_number.Goals as goal

pub returns-then-is_empty : goal.returns-then-is_empty
returns-then-is_empty c = search (rules, number_of-length)

pub returns-then-not-is_ascii_digit : goal.returns-then-not-is_ascii_digit
returns-then-not-is_ascii_digit c = record { value = sym (number_of-other c.args.word.now (search (rules, common_steps))) }

pub returns : goal.returns
returns c = grind (arith, common_steps, number_of-digits)
