use Rattle.std.proofs.{Common.arith, lemmas.Grind.common_steps}
use Rattle.stn_questions.proofs.ready.append_event_line.Goals as goal

pub returns : goal.returns
returns g c = grind (arith, common_steps)
