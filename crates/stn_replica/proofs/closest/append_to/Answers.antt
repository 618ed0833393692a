use Rattle.std.proofs.Common.{rules}
use Rattle.stn_replica.proofs.Rows.{in_turn_pushed}
use Rattle.stn_replica.proofs.closest.append_to.Goals as goal

pub returns-clause-more : goal.returns-clause-more
returns-clause-more g c = search (rules, in_turn_pushed)
