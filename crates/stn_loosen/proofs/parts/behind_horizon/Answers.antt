use Rattle.std.proofs.{Common.rules, lemmas.List.{take_rest, drop_at}}
use Rattle.stn_net.{proofs.Horizons.length-horizon_bounds}
use Rattle.stn_lift.{proofs.PlanHorizon.horizon_within}
use Rattle.stn_loosen.{proofs.ThreeParts.parted}
use Rattle.stn_loosen.proofs.parts.behind_horizon.Goals as goal

pub slice_bounds-result-count : goal.slice_bounds-result-count
slice_bounds-result-count g c = search (rules, horizon_within)

pub slice_bounds-result-start : goal.slice_bounds-result-start
slice_bounds-result-start g c = search (rules, horizon_within)

pub returns-clause-value : goal.returns-clause-value
returns-clause-value g c = search (rules, take_rest, parted, drop_at, length-horizon_bounds)
