use Rattle.stn_conflict.proofs.Turned.{distances_of_turned}
use Rattle.stn_conflict.proofs.reach.distances.Goals as goal

pub returns-in-Some-2-clause-to : goal.returns-in-Some-2-clause-to
returns-in-Some-2-clause-to g c = distances_of_turned (rw c.in-Some-2.is at c.in_ok-to.ensures)

pub returns-in-Some-2-clause-from : goal.returns-in-Some-2-clause-from
returns-in-Some-2-clause-from g c = rw c.in-Some.is at c.in_ok-from.ensures
