use Rattle.std.proofs.Common.{ℕ, ◌<◌, ◌≤ℤ◌}
use Rattle.stn_net.specs.{Schedule.times_of, Windows.Dispatch.IsLeft}
use Rattle.stn_matrix.proofs.windows.soonest.overdue.Given as goal

abbrev pub invariant-loop-number : goal.invariant-loop-number
invariant-loop-number l = (event : ℕ) → event < l.number → IsLeft l.done event → l.now ≤ℤ times_of l.latest event
