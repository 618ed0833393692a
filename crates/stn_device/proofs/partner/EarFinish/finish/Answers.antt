use Rattle.std.proofs.Common.{rules}
use Rattle.stn_device.proofs.partner.EarFinish.finish.Goals as goal

pub returns-clause-told : goal.returns-clause-told
returns-clause-told c = search rules
