use Rattle.stn_conflict.proofs.CycleSums.{negative_no_schedule}
use Rattle.stn_loosen.{specs.Fragile.start_bounds, proofs.Robustness.starts_schedule}
use Rattle.stn_laws.proofs.loosened.fragile_plans_have_no_promise.Goals as goal

pub returns : goal.returns
returns c = λ source slack links sound is cycle promise. negative_no_schedule (start_bounds source slack) links cycle (starts_schedule source sound slack is promise.0 promise.1)
