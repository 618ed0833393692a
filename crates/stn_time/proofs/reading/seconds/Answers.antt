use Rattle.std.proofs.{lemmas.{Int.Digits.digits_value_more, Str.Parse.digit_at}, Common.{rules, arith}}
use Rattle.stn_time.proofs.reading.seconds.Goals as goal

pub overflow_sub-digit : goal.overflow_sub-digit
overflow_sub-digit c = omega (arith, digit_at)

pub loop-digit-preserved : goal.loop-digit-preserved
loop-digit-preserved c = search (rules, digits_value_more, digit_at)
