use Rattle.stn_laws.proofs.questions.one_answer.Goals as goal
use Rattle.stn_laws.proofs.questions.OneAnswer.{one_answer}

pub returns : goal.returns
returns c = one_answer c.one_report.ensures c.one_way.ensures c.negative_cycle_is_conflict.ensures
