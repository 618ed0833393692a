use Rattle.std.proofs.Common.{rules}
use Rattle.stn_laws.proofs.queries.chosen_all.Goals as goal

pub returns : goal.returns
returns c = λ source state. search rules
