use Rattle.std.proofs.Common.{◌≡◌}
use Rattle.stn_net.specs.Horizon.{horizon_bounds}
use Rattle.stn_lift.proofs.bounds.horizon_bounds.Given as goal

abbrev pub invariant-loop-before : goal.invariant-loop-before
invariant-loop-before g l = l.bounds.items ≡ horizon_bounds l.before
