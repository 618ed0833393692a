use Rattle.std.proofs.{Common.{rules, arith}, lemmas.{Str.Parse.digit_at, List.get_or_default}}
use Rattle.stn_time.proofs.reading.digit_at.Goals as goal

pub overflow_sub-digits : goal.overflow_sub-digits
overflow_sub-digits c = omega (arith, digit_at)

pub returns-then-place-digits-clause-value : goal.returns-then-place-digits-clause-value
returns-then-place-digits-clause-value c = search (rules, digit_at, get_or_default)

pub returns-then-place-digits-clause-small : goal.returns-then-place-digits-clause-small
returns-then-place-digits-clause-small c = omega (arith, digit_at)
