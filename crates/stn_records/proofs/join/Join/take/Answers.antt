use Rattle.std.proofs.Common.{rules}
use Rattle.stn_records.proofs.join.Join.take.Goals as goal

pub returns-clause-joined : goal.returns-clause-joined
returns-clause-joined g c = search rules
