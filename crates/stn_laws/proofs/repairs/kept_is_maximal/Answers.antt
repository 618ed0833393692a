use Rattle.std.proofs.Common.{rules}
use Rattle.stn_laws.proofs.repairs.kept_is_maximal.Goals as goal
use Rattle.stn_laws.proofs.repairs.{Largest.{kept_possible, kept_largest}, LiveOnce.live_once}

pub returns-clause-possible : goal.returns-clause-possible
returns-clause-possible c = search (rules, kept_possible)

pub returns-clause-largest : goal.returns-clause-largest
returns-clause-largest c = search (rules, kept_largest, live_once)
