use Rattle.std.{proofs.Common.{◌≡◌, length, take}, specs.List.Sorted.IsPermutation}
use Rattle.stn_replica.specs.Rows.{in_turn}
use Rattle.stn_replica.proofs.closest.every_other_first.Given as goal

abbrev pub invariant-loop-bound : goal.invariant-loop-bound
invariant-loop-bound g l = record {
  long : length l.rows.items ≡ 1024;
  so_far : IsPermutation (take l.bound-index l.bounds) (in_turn l.rows.items);
}
