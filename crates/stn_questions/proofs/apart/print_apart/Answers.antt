use Rattle.std.proofs.Common.{rules}
use Rattle.stn_questions.proofs.apart.print_apart.Goals as goal

pub returns-then-eq-clause-refused : goal.returns-then-eq-clause-refused
returns-then-eq-clause-refused g c = search rules
