use Rattle.stn_laws.proofs.sessions.OneSession.{one_end}
use Rattle.stn_laws.proofs.sessions.one_session.Goals as goal

pub returns : goal.returns
returns c = one_end
