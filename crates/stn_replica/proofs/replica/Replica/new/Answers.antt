use Rattle.std.proofs.Common.{rules}
use Rattle.stn_replica.proofs.replica.Replica.new.Goals as goal

pub returns-clause-site : goal.returns-clause-site
returns-clause-site g c = search rules
