use Rattle.std.proofs.Common.{rules}
use Rattle.stn_cause.proofs.cause.Cause.of.Goals as goal

pub returns-in-NotFound : goal.returns-in-NotFound
returns-in-NotFound c = search rules
