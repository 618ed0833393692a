use Rattle.std.proofs.Common.{rules}
use Rattle.stn_questions.proofs.ends.times_of.Goals as goal

pub returns : goal.returns
returns g c = search (rules)
