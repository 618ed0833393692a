use Rattle.std.proofs.Common.{take}
use Rattle.stn_loosen.specs.{Moved.moved_bounds, Making.AreMadeBehind}
use Rattle.stn_loosen.proofs.making.Moving.with_moved.Given as goal

abbrev pub invariant-loop-bound : goal.invariant-loop-bound
invariant-loop-bound g l = AreMadeBehind l.fn.self (moved_bounds l.durations (take l.bound-index l.bounds)) l.moving
