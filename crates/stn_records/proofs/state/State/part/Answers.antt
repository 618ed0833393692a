use Rattle.std.proofs.Common.{rules}
use Rattle.stn_records.proofs.state.State.part.Goals as goal

pub returns : goal.returns
returns g c = search rules
