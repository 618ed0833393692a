use Rattle.stn_site.specs.{Bounds.all_bounds, Report.done_events}
use Rattle.stn_laws.proofs.questions.one_ready_text.Goals as goal
use Rattle.stn_laws.proofs.questions.OneAnswer.{one_ready_text}

pub returns : goal.returns
returns c = λ source state. one_ready_text (all_bounds source state) (done_events source state)
