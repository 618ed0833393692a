use Rattle.stn_laws.proofs.worlds.{EachRun.{delivery_stays, merge_stays}, Lawful.lawful_run}
use Rattle.stn_laws.proofs.worlds.held_ever_after.Goals as goal

pub returns-clause-delivered : goal.returns-clause-delivered
returns-clause-delivered c = λ source sites steps. delivery_stays _ _ (lawful_run source sites steps)

pub returns-clause-merged : goal.returns-clause-merged
returns-clause-merged c = λ source sites steps. merge_stays _ _ (lawful_run source sites steps)
