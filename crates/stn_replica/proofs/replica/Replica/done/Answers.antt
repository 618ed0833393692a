use Rattle.stn_replica.proofs.replica.Replica.done.Goals as goal

pub returns : goal.returns
returns g c = let is = c.change.ensures in record { leaves = is.leaves; work = is.work; accepted = is.accepted; fault = is.fault; kept = is.kept }
