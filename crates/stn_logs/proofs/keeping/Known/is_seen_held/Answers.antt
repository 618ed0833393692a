use Rattle.stn_logs.proofs.Spelled.{opened_by_look}
use Rattle.stn_logs.proofs.keeping.Known.is_seen_held.Goals as goal

pub returns-in-Some : goal.returns-in-Some
returns-in-Some g c = opened_by_look _ c.in-Some.ensures c.is_seen_held.ensures
