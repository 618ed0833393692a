use Rattle.std.proofs.Common.{rules}
use Rattle.stn_replica.proofs.replica.Replica.check.Goals as goal

pub returns-clause-first : goal.returns-clause-first
returns-clause-first g c = search rules

pub returns-clause-schedule : goal.returns-clause-schedule
returns-clause-schedule g c = search rules
