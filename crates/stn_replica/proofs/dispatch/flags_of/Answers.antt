use Rattle.stn_replica.proofs.dispatch.flags_of.Goals as goal

pub returns-clause-one_each : goal.returns-clause-one_each
returns-clause-one_each g c = cc
