use Rattle.std.proofs.Common.{rules}
use Rattle.stn_net.proofs.windows.answers.FailureFromRehearseFault.from.Goals as goal

pub returns-in-Overdue : goal.returns-in-Overdue
returns-in-Overdue c = search rules
