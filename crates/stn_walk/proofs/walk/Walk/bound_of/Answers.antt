use Rattle.std.proofs.Common.{arith}
use Rattle.stn_walk.proofs.walk.Walk.bound_of.Goals as goal

pub offset_bounds-self-row : goal.offset_bounds-self-row
offset_bounds-self-row g c = omega arith

pub bounds-self-row : goal.bounds-self-row
bounds-self-row g c = c.requires
