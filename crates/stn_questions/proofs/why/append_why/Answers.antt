use Rattle.std.proofs.{Common.rules, lemmas.Result.IfOk-weaker}
use Rattle.stn_questions.proofs.why.append_why.Goals as goal

pub returns-in-None-clause-printed : goal.returns-in-None-clause-printed
returns-in-None-clause-printed g c = search (rules, IfOk-weaker)
