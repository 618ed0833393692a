use Rattle.stn_logs.proofs.Spelled.{looked_at}
use Rattle.stn_logs.proofs.keeping.Known.load.Goals as goal

pub see-requires : goal.see-requires
see-requires g c = rw c.of-known.ensures (looked_at c.look-seen.result c.look-seen.ensures c.in_ok-plan.ensures.opened)
