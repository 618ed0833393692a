use Rattle.std.proofs.Common.{rules}
use Rattle.stn_effects.proofs.printing.print_now.Goals as goal

pub returns-in_err-print-clause-failed : goal.returns-in_err-print-clause-failed
returns-in_err-print-clause-failed g c = search rules

pub returns-in-Ok-clause-printed : goal.returns-in-Ok-clause-printed
returns-in-Ok-clause-printed g c = search rules
