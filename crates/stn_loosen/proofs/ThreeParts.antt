-- A plan's own bounds as three parts: the horizon, the durations, the orders.
use Rattle.std.proofs.Common.{rules, ◌≡◌, ◌≤◌, min, ◌++◌, length, append_assoc, length-append}
use Rattle.stn_lift.{proofs.FewBounds.length-duration_bounds, specs.PlanSource.{PlanSource, steps_of, events_of, base_bounds}}
use Rattle.stn_net.specs.Horizon.{horizon_bounds}
use Rattle.stn_loosen.specs.Loosened.{durations_of, orders_of}

pub parted : (source : PlanSource) → base_bounds source ≡ horizon_bounds (events_of source) ++ (durations_of source ++ orders_of source)
parted source = search (rules, append_assoc)

-- a plan has no more durations than steps
pub few_durations : (source : PlanSource) → length (durations_of source) ≤ steps_of source
few_durations source = search (rules, length-duration_bounds)

-- where the durations end, and the orders begin
pub durations_end : (source : PlanSource) → min (length (durations_of source ++ orders_of source)) (steps_of source) ≡ length (durations_of source)
durations_end source = search (rules, length-duration_bounds, length-append)
