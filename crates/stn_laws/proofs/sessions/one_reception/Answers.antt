use Rattle.stn_laws.proofs.sessions.OneReception.{one_answer}
use Rattle.stn_laws.proofs.sessions.one_reception.Goals as goal

pub returns : goal.returns
returns c = one_answer
