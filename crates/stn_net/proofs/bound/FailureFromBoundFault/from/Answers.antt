use Rattle.std.proofs.Common.{rules}
use Rattle.stn_net.proofs.bound.FailureFromBoundFault.from.Goals as goal

pub returns-in-NoEvent : goal.returns-in-NoEvent
returns-in-NoEvent c = search rules
