use Rattle.stn_guard.proofs.OneGuard.{one_made}
use Rattle.stn_guard.proofs.laws.one_guard.Goals as goal

pub returns : goal.returns
returns c = one_made
