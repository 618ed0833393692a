use Rattle.std.{proofs.Common.{◌≡◌, ◌<◌, ◌≤◌, ℕ}, specs.{Prelude.slice_index_or, List.Sorted.IsPermutation}}
use Rattle.stn_net.specs.Matrix.{Table.entry, Way.IsOnWay}
use Rattle.stn_matrix.proofs.matrix.runs.gather.Given as goal

abbrev pub invariant-loop-place : goal.invariant-loop-place
invariant-loop-place g l = record {
  permutation : IsPermutation l.fn.columns l.columns;
  kept : (i : ℕ) → i < l.begin → slice_index_or l.columns i 0 ≡ slice_index_or l.fn.columns i 0;
  first : slice_index_or l.columns l.begin 0 ≡ l.first;
  begins : l.begin < l.end;
  ends : l.end ≤ l.place;
  beyond : (i : ℕ) → l.begin < i → i < l.end → IsOnWay (entry l.square) l.arc.to l.first (slice_index_or l.columns i 0);
}
