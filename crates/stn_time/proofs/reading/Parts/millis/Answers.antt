use Rattle.std.proofs.Common.{rules}
use Rattle.stn_time.proofs.Sums.{near-size}
use Rattle.stn_time.proofs.reading.Parts.millis.Goals as goal

pub returns : goal.returns
returns c = search (rules, near-size)
