use Rattle.std.proofs.Common.{rules}
use Rattle.stn_session.proofs.exchange.FailureFromReplyFault.from.Goals as goal

pub returns-in-Reply : goal.returns-in-Reply
returns-in-Reply c = search rules
