use Rattle.std.proofs.Common.{rules}
use Rattle.stn_device.proofs.counted.CountedFinish.finish.Goals as goal

pub returns-then-is_err : goal.returns-then-is_err
returns-then-is_err g c = record {
  told = rw c.count_failure.ensures.device c.finish-finished.ensures.told;
  untold = rw c.count_failure.ensures.device c.finish-finished.ensures.untold;
  bytes = rw c.count_failure.ensures.device c.finish-finished.ensures.bytes;
  failed = search rules;
  passed = search rules;
}
