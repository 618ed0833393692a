use Rattle.std.proofs.{Common.arith, lemmas.Grind.common_steps}
use Rattle.stn_session.proofs.exchange.next_reply.Goals as goal

pub returns-in-Ok-Frame-clause-finds : goal.returns-in-Ok-Frame-clause-finds
returns-in-Ok-Frame-clause-finds g c = grind (arith, common_steps)

pub returns-in-Err-Bound-clause-finds : goal.returns-in-Err-Bound-clause-finds
returns-in-Err-Bound-clause-finds g c = grind (arith, common_steps)
