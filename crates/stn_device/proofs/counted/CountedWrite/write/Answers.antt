use Rattle.std.proofs.Common.{rules}
use Rattle.stn_device.proofs.counted.CountedWrite.write.Goals as goal

pub returns-in-Err-clause-failed : goal.returns-in-Err-clause-failed
returns-in-Err-clause-failed g c = search rules
