use Rattle.std.proofs.Common.{rules}
use Rattle.stn_wire.{proofs.Fronts.whole_read}
use Rattle.stn_wire.proofs.front.decode.Goals as goal

pub returns-in-Some : goal.returns-in-Some
returns-in-Some g c = search (rules, whole_read)
