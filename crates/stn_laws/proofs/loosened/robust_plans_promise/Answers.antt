use Rattle.std.proofs.Common.{rules}
use Rattle.stn_loosen.proofs.Robustness.{records_robust, records_promise, records_loosened}
use Rattle.stn_laws.proofs.loosened.robust_plans_promise.Goals as goal

pub returns-clause-possible : goal.returns-clause-possible
returns-clause-possible c = search (rules, records_promise)

pub returns-clause-promised : goal.returns-clause-promised
returns-clause-promised c = λ source slack records sound is are time schedule. let robust = records_robust source sound slack is records are in robust.promised time schedule

pub returns-clause-loosened : goal.returns-clause-loosened
returns-clause-loosened c = search (rules, records_loosened)
