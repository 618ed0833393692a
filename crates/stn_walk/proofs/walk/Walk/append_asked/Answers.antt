use Rattle.std.proofs.{Common.arith, lemmas.Grind.common_steps}
use Rattle.stn_walk.proofs.walk.Walk.append_asked.Goals as goal

pub returns-in_ok-append_step_words : goal.returns-in_ok-append_step_words
returns-in_ok-append_step_words g c = grind (arith, common_steps)

pub returns-else-is_duration : goal.returns-else-is_duration
returns-else-is_duration g c = grind (arith, common_steps)
