use Rattle.std.{proofs.Common.{◌<◌, ◌+◌, ℕ}, specs.Prelude.{ℤ, pos, neg_ℤ, ◌-ℤ◌, ◌*ℤ◌, ◌≤ℤ◌}}
use Rattle.stn_time.specs.Time.{horizon}
use Rattle.stn_conflict.specs.Relaxation.{AreRelaxed}
use Rattle.stn_conflict.proofs.relaxation.Search.comes_back.Given as goal

abbrev pub invariant-loop : goal.invariant-loop
invariant-loop g l = record {
  here : l.here < l.graph.events + 1;
  least : neg_ℤ (horizon *ℤ pos l.counter) ≤ℤ l.sum;
  most : l.sum ≤ℤ (horizon *ℤ pos l.counter);
  kept : (low : ℕ → ℤ) → AreRelaxed l.graph.bounds low → (low l.start -ℤ low l.here) ≤ℤ l.sum;
}
