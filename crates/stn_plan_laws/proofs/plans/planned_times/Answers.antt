use Rattle.stn_plan_laws.proofs.plans.planned_times.Goals as goal
use Rattle.stn_plan_laws.proofs.plans.PlannedTimes.{planned_at}

pub returns : goal.returns
returns c = planned_at
