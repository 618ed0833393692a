use Rattle.std.proofs.Common.{◌≡◌, ◌<◌, ◌^◌, take}
use Rattle.stn_walk.specs.Walk.{early, late, greatest}
use Rattle.stn_walk.proofs.conflict.reach_of.Given as goal

abbrev pub invariant-loop-place : goal.invariant-loop-place
invariant-loop-place l = (l.before ≡ greatest early (take l.place l.sums)) × (l.after ≡ greatest late (take l.place l.sums)) × (l.before < 2 ^ 45) × (l.after < 2 ^ 45)
