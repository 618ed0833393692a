use Rattle.std.proofs.Common.{rules}
use Rattle.stn_time.proofs.millis.MsNeg.neg.Goals as goal

pub returns : goal.returns
returns c = search rules
