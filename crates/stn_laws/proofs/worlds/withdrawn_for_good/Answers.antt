use Rattle.stn_laws.proofs.worlds.{EachRun.withdrawn_stays, Lawful.lawful_run}
use Rattle.stn_laws.proofs.worlds.withdrawn_for_good.Goals as goal

pub returns : goal.returns
returns c = λ source sites steps. withdrawn_stays _ _ (lawful_run source sites steps)
