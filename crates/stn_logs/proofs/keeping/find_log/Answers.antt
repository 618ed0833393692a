use Rattle.stn_store.proofs.Lacks.{passed_on}
use Rattle.stn_logs.proofs.keeping.find_log.Goals as goal

pub returns-in_err-known : goal.returns-in_err-known
returns-in_err-known g c = rw (passed_on _ _ c.from_residual.ensures.1) c.in_err-known.ensures.failed

pub returns : goal.returns
returns g c = (c.in_ok-known.known, c.in_ok-known.ensures.opened)
