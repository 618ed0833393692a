use Rattle.std.proofs.{Common.{ℕ, ◌*◌, ◌<◌, arith}, lemmas.Int.ints}
use Rattle.stn_walk.proofs.walk.Walk.along.Goals as goal

-- so many gaps are so long at most
short : (gap before : ℕ) → gap < 68719476736 → before < 16384 → gap * before < 1125899906842624
short gap before small few = grind arith

pub overflow_mul-shift : goal.overflow_mul-shift
overflow_mul-shift g c = omega (arith, short)

pub overflow_cast-shift : goal.overflow_cast-shift
overflow_cast-shift g c = omega (arith, short)

pub overflow_add-time : goal.overflow_add-time
overflow_add-time g c = omega (arith, ints, short)

pub returns-clause-value : goal.returns-clause-value
returns-clause-value g c = omega (arith, ints, short)

pub returns-clause-small : goal.returns-clause-small
returns-clause-small g c = omega (arith, ints, short)
