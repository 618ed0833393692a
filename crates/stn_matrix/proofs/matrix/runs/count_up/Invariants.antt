use Rattle.std.{proofs.Common.{◌≡◌, ◌+◌, ◌<◌, ℕ, length}, specs.Prelude.slice_index_or}
use Rattle.stn_matrix.proofs.matrix.runs.count_up.Given as goal

abbrev pub invariant-loop-place : goal.invariant-loop-place
invariant-loop-place l = record {
  long : length l.ends ≡ length l.fn.ends;
  next : (i : ℕ) → i < l.place → slice_index_or l.ends i 0 ≡ i + 1;
}
