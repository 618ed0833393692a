use Rattle.std.proofs.Common.{◌≡◌, ◌++◌, take, map, All}
use Rattle.stn_loosen.specs.{Moved.moved_bounds, Stepped.{as_bound, IsWithinReach}}
use Rattle.stn_loosen.proofs.starts.starts_of.Given as goal

abbrev pub invariant-loop-bound : goal.invariant-loop-bound
invariant-loop-bound g l = record {
  value : map as_bound l.starts.items ≡ l.horizon ++ moved_bounds l.durations (take l.bound-index l.bounds);
  reach : All IsWithinReach (map as_bound l.starts.items);
}
