use Rattle.std.{proofs.{Common.{rules, sym, length, arith}, lemmas.List.Sums.prefix_len_is}, specs.Char.is_ascii_digit}
use Rattle.stn_time.proofs.reading.digits_len.Goals as goal

pub returns-then-not-is_ascii_digit-clause-value : goal.returns-then-not-is_ascii_digit-clause-value
returns-then-not-is_ascii_digit-clause-value c = search (rules, prefix_len_is)

pub returns-clause-value : goal.returns-clause-value
returns-clause-value c = sym (prefix_len_is is_ascii_digit c.args.bytes.now (length c.args.bytes.now) 0 (omega arith) (λ k h. c.loop-i.invariant k (omega arith)) (λ h. absurd (omega arith)))
