use Rattle.std.proofs.Common.{arith, refl}
use Rattle.stn_walk.proofs.parts.top_of.Goals as goal

pub overflow_mul-result : goal.overflow_mul-result
overflow_mul-result c = omega arith

pub overflow_add-result : goal.overflow_add-result
overflow_add-result c = omega arith

pub returns-clause-value : goal.returns-clause-value
returns-clause-value c = refl

pub returns-clause-small : goal.returns-clause-small
returns-clause-small c = omega arith
