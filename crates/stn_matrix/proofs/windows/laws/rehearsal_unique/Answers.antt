use Rattle.std.proofs.Common.{rules}
use Rattle.stn_net.proofs.OneAnswer.{one_rehearsal, none_overdue}
use Rattle.stn_matrix.proofs.windows.laws.rehearsal_unique.Goals as goal

pub returns-clause-runs : goal.returns-clause-runs
returns-clause-runs c = search (rules, one_rehearsal)

pub returns-clause-overdue : goal.returns-clause-overdue
returns-clause-overdue c = none_overdue
