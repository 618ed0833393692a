use Rattle.std.proofs.Common.{◌≡◌, take, map, All}
use Rattle.stn_loosen.specs.Stepped.{as_bound, IsWithinReach}
use Rattle.stn_loosen.proofs.starts.spans_of.Given as goal

abbrev pub invariant-loop-bound : goal.invariant-loop-bound
invariant-loop-bound g l = record {
  value : map as_bound l.spans.items ≡ take l.bound-index l.bounds;
  reach : All IsWithinReach (map as_bound l.spans.items);
}
