use Rattle.std.proofs.Common.{◌≡◌, ℕ, ◌<◌, length}
use Rattle.stn_net.specs.Schedule.{times_of}
use Rattle.stn_lift.specs.PlanSource.{planned_of}
use Rattle.stn_loosen.proofs.nearest.planned_times.Given as goal

abbrev pub invariant-loop-number : goal.invariant-loop-number
invariant-loop-number g l = record {
  counted : length l.times.items ≡ l.number;
  timed : (event : ℕ) → event < l.number → times_of l.times.items event ≡ planned_of l.base event;
}
