use Rattle.std.proofs.Common.{◌-◌, length}
use Rattle.stn_conflict.specs.Search.{IsWalkOf}
use Rattle.stn_conflict.proofs.levels.levels_from.Given as goal

abbrev pub invariant-loop-place : goal.invariant-loop-place
invariant-loop-place g l = IsWalkOf l.graph.bounds l.start (length l.far) l.place l.walk

abbrev pub decreases-loop-place : goal.decreases-loop-place
decreases-loop-place g l = length l.far - l.place
