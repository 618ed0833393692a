use Rattle.stn_replica.proofs.replica.Replica.beside.Goals as goal

pub returns-clause-site : goal.returns-clause-site
returns-clause-site g c = rw c.in_ok-plan.ensures.site at c.opened.ensures.site
