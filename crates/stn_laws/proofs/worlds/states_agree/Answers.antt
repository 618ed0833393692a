use Rattle.stn_laws.proofs.worlds.{EachRun.{any_agree, own_known}, Lawful.lawful_run}
use Rattle.stn_laws.proofs.worlds.states_agree.Goals as goal

pub returns-clause-agreed : goal.returns-clause-agreed
returns-clause-agreed c = λ source sites steps. any_agree _ _ (lawful_run source sites steps)

pub returns-clause-own : goal.returns-clause-own
returns-clause-own c = λ source sites steps. own_known _ _ (lawful_run source sites steps)
