use Rattle.stn_lift.specs.PlanSource.{base_bounds}
use Rattle.stn_records.specs.Content.{live_of}
use Rattle.stn_laws.proofs.repairs.one_repairs_text.Goals as goal
use Rattle.stn_laws.proofs.repairs.Once.{one_said}

pub returns : goal.returns
returns c = λ source state text other p q. one_said (base_bounds source) (live_of state) text other p q
