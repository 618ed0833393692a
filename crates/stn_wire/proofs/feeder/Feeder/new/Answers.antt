use Rattle.std.proofs.Common.{rules}
use Rattle.stn_wire.proofs.feeder.Feeder.new.Goals as goal

pub returns : goal.returns
returns g c = search rules
