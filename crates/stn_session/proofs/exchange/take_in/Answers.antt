use Rattle.std.proofs.{Common.arith, lemmas.Grind.common_steps}
use Rattle.stn_session.proofs.exchange.take_in.Goals as goal

pub returns-in-Err-clause-taken : goal.returns-in-Err-clause-taken
returns-in-Err-clause-taken g c = tt

pub returns-in-Err-clause-refused : goal.returns-in-Err-clause-refused
returns-in-Err-clause-refused g c = grind (arith, common_steps)
