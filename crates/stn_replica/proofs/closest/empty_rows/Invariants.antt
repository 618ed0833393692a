use Rattle.std.proofs.Common.{◌≡◌, [], length}
use Rattle.stn_replica.specs.Rows.{in_turn}
use Rattle.stn_replica.proofs.closest.empty_rows.Given as goal

abbrev pub invariant-loop : goal.invariant-loop
invariant-loop g l = record {
  long : length l.rows.items ≡ l.counter;
  empty : in_turn l.rows.items ≡ [];
}
