use Rattle.std.{proofs.{Common.{◌≡◌, ℤ, neg_ℤ, Bool, true, false, codes, cond}}, specs.Ordering.int_eq}
use Rattle.stn_time.specs.{Time.horizon, Text.printed}
use Rattle.stn_site.proofs.Values.{held_is}
use Rattle.stn_questions.specs.Bounds.{lower_text}
use Rattle.stn_questions.proofs.bounds.lower.Goals as goal

side : (lo edge : ℤ) (is_open : Bool) → edge ≡ neg_ℤ horizon → is_open ≡ int_eq lo edge → cond is_open (codes "*") (printed lo) ≡ lower_text lo
side lo edge is_open is told = cc

pub returns-then-eq : goal.returns-then-eq
returns-then-eq c = side c.args.lo c.unwrap.result true (held_is c.new.result c.unwrap.result (neg_ℤ horizon) c.unwrap.ensures c.new.ensures.value) c.if-eq.ensures

pub returns-else-eq : goal.returns-else-eq
returns-else-eq c = side c.args.lo c.unwrap.result false (held_is c.new.result c.unwrap.result (neg_ℤ horizon) c.unwrap.ensures c.new.ensures.value) c.if-eq.ensures
