use Rattle.std.proofs.Common.{rules}
use Rattle.stn_text.proofs.names.print_event.Goals as goal

pub returns-else-number-eq1-clause-printed : goal.returns-else-number-eq1-clause-printed
returns-else-number-eq1-clause-printed g c = search rules
