use Rattle.std.proofs.Common.{◌≡◌, ℕ, [], length}
use Rattle.stn_conflict.specs.Relaxation.{row_of}
use Rattle.stn_conflict.proofs.outgoing.Rows.new.Given as goal

abbrev pub invariant-loop : goal.invariant-loop
invariant-loop g l = record {
  long : length l.outgoing.items ≡ l.counter;
  empty : (x : ℕ) → row_of l.outgoing.items x ≡ [];
}
