use Rattle.stn_exchanges.{specs.Connections.{ServesSite, WithNext}, proofs.Served.times_stop}
use Rattle.stn_exchanges.proofs.laws.stopped_after_fewer.Goals as goal

pub returns : goal.returns
returns g c = λ log source. times_stop (WithNext (ServesSite g.S.Store.fails log source))
