-- The bounds of the horizon, with which a plan's bounds begin.
use Rattle.std.proofs.{lemmas.Grind.common_steps, Common.{◌≤◌, length, arith}}
use Rattle.stn_net.proofs.Horizons.{length-horizon_bounds}
use Rattle.stn_lift.specs.PlanSource.{PlanSource, base_bounds, events_of, IsSoundSource}

-- the bounds are no fewer than the events
pub horizon_within : (source : PlanSource) → IsSoundSource source → events_of source ≤ length (base_bounds source)
horizon_within source sound = grind (arith, common_steps, length-horizon_bounds)
