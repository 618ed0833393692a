use Rattle.std.proofs.Common.{◌≡◌, ◌<◌, ◌≤◌, ◌+◌, ◌-◌, length, take}
use Rattle.stn_net.specs.Schedule.{HasSchedule}
use Rattle.stn_conflict.specs.Relaxation.{AreEstimates, HasTables}
use Rattle.stn_conflict.proofs.search.first_between.Given as goal

abbrev pub invariant-loop-high : goal.invariant-loop-high
invariant-loop-high g l = record {
  known : AreEstimates (take l.low l.graph.bounds) l.search.start l.known;
  long : length l.known ≡ l.graph.events + 1;
  tables : HasTables (l.graph.events + 1) l.search;
  past : l.graph.events ≤ l.low;
  apart : l.low < l.high;
  within : l.high ≤ length l.graph.bounds;
  has : HasSchedule (take l.low l.graph.bounds);
  none : ¬ HasSchedule (take l.high l.graph.bounds);
}

abbrev pub decreases-loop-high : goal.decreases-loop-high
decreases-loop-high g l = l.high - l.low
