use Rattle.std.proofs.Common.{rules}
use Rattle.stn_device.proofs.deadline.Deadline.left.Goals as goal

pub returns-then-is_zero-clause-in_time : goal.returns-then-is_zero-clause-in_time
returns-then-is_zero-clause-in_time c = search rules

pub returns-else-is_zero-clause-in_time : goal.returns-else-is_zero-clause-in_time
returns-else-is_zero-clause-in_time c = search rules

pub returns-else-is_zero-clause-rest : goal.returns-else-is_zero-clause-rest
returns-else-is_zero-clause-rest c = search rules
