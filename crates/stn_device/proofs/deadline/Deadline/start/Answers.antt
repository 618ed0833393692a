use Rattle.std.proofs.Common.{rules}
use Rattle.stn_device.proofs.deadline.Deadline.start.Goals as goal

pub returns-clause-limit : goal.returns-clause-limit
returns-clause-limit g c = search rules
