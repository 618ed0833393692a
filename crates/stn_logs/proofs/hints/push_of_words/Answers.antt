use Rattle.std.proofs.{Common.arith, lemmas.Grind.common_steps}
use Rattle.stn_logs.proofs.hints.push_of_words.Goals as goal

pub returns-in_ok-push_where-in-Amend : goal.returns-in_ok-push_where-in-Amend
returns-in_ok-push_where-in-Amend g c = grind (arith, common_steps)
