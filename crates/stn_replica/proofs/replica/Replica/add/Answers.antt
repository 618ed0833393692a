use Rattle.stn_replica.proofs.replica.Replica.add.Goals as goal

pub returns : goal.returns
returns g c = let is = rw c.new.ensures at c.change.ensures in record { leaves = is.leaves; work = is.work; accepted = is.accepted; fault = is.fault; kept = is.kept }
