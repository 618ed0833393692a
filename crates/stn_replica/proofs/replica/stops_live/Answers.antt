use Rattle.stn_replica.proofs.replica.stops_live.Goals as goal

pub returns-in-Some : goal.returns-in-Some
returns-in-Some g c = cc

pub returns-in-None : goal.returns-in-None
returns-in-None g c = cc
