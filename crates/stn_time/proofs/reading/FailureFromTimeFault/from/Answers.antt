use Rattle.std.proofs.Common.{rules}
use Rattle.stn_time.proofs.reading.FailureFromTimeFault.from.Goals as goal

pub returns-in-Malformed : goal.returns-in-Malformed
returns-in-Malformed c = search rules
