use Rattle.stn_lift.specs.PlanSource.{base_bounds}
use Rattle.stn_records.specs.Content.{live_of}
use Rattle.stn_repairs.proofs.Cycles.{lies_on, named_link}
use Rattle.stn_laws.proofs.repairs.repairs_lie_on_each_cycle.Goals as goal

pub returns : goal.returns
returns c = λ source state links id cycle has.
    let (link, among, is) = lies_on _ _ id links cycle has in
    (link, among, named_link (base_bounds source) (live_of state) id link is)
