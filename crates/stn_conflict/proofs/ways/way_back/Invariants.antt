use Rattle.std.{proofs.Common.{◌≡◌, ◌+◌, ◌<◌, ℕ, Some, length}, specs.{Prelude.{reverse, unwrap_or}, List.AllByRecursion}}
use Rattle.stn_conflict.specs.{Arcs.IsChain, Named.IsFirstStep, Search.level_at}
use Rattle.stn_conflict.proofs.ways.way_back.Given as goal

abbrev pub invariant-loop-link : goal.invariant-loop-link
invariant-loop-link g l = record {
  within : l.here < length l.far;
  chain : IsChain l.graph.bounds (reverse l.links.items) l.here l.fn.end;
  first : AllByRecursion (IsFirstStep l.graph.bounds l.fn.start) (reverse l.links.items);
  short : (level : ℕ) → level_at l.levels.items l.here ≡ Some level → length l.links.items + level < length l.far;
}

abbrev pub decreases-loop-link : goal.decreases-loop-link
decreases-loop-link g l = unwrap_or (level_at l.levels.items l.here) 0
