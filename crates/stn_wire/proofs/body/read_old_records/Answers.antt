use Rattle.std.proofs.Common.{rules}
use Rattle.stn_wire.proofs.body.read_old_records.Goals as goal

pub returns : goal.returns
returns g c = search rules
