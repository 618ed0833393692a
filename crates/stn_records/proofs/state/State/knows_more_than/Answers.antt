use Rattle.std.proofs.Common.{rules}
use Rattle.stn_records.{proofs.Limits.known_within}
use Rattle.stn_records.proofs.state.State.knows_more_than.Goals as goal

-- both lists are too short
pub returns-else-added-replaced : goal.returns-else-added-replaced
returns-else-added-replaced g c = search (rules, known_within)
