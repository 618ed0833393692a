use Rattle.stn_exchanges.proofs.Served.{visits_of}
use Rattle.stn_exchanges.proofs.laws.served_by_visits.Goals as goal

pub returns : goal.returns
returns g c = visits_of g.S.Store.fails
