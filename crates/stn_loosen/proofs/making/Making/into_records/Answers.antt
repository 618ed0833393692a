use Rattle.stn_time.proofs.Each.{All-right}
use Rattle.stn_net.specs.{Difference.NamesEvents, Horizon.horizon_bounds}
use Rattle.stn_loosen.proofs.making.Making.into_records.Goals as goal

pub returns-clause-named : goal.returns-clause-named
returns-clause-named g c =
    let events = c.self.inside.matrix.events in
    rw (← c.self.view_is) (All-right (NamesEvents events) (horizon_bounds events) c.self.inside.records.items c.self.invariant.exact.named)
