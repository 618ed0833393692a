use Rattle.std.proofs.Common.{rules}
use Rattle.stn_lift.proofs.PlanHorizon.{horizon_within}
use Rattle.stn_loosen.proofs.parts.horizon_of.Goals as goal

pub slice_bounds-result-end : goal.slice_bounds-result-end
slice_bounds-result-end g c = search (rules, horizon_within)
