use Rattle.std.proofs.Common.{ap}
use Rattle.stn_store.proofs.{Lacks.passed_on, Decided.{decided_log_of, load_failed_of}}
use Rattle.stn_store.proofs.reading.read_log.Goals as goal

pub returns-in_err-load_plan-clause-failed : goal.returns-in_err-load_plan-clause-failed
returns-in_err-load_plan-clause-failed g c = rw (passed_on _ _ c.from_residual.ensures.1) (load_failed_of _ c.in_err-load_plan.field-0.0 (ap g.R.Read.remaining c.new-counted.ensures.device) c.in_err-load_plan.ensures.meaning)

pub returns-clause-said : goal.returns-clause-said
returns-clause-said g c = decided_log_of _ (ap g.R.Read.remaining c.new-counted.ensures.device) c.in_ok-load_plan.ensures.meaning
