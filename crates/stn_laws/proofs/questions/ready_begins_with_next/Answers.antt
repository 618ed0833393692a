use Rattle.stn_laws.proofs.questions.ready_begins_with_next.Goals as goal
use Rattle.stn_laws.proofs.questions.ReadyNext.{begins_with_next}

pub returns : goal.returns
returns c = begins_with_next
