use Rattle.std.proofs.Common.{rules}
use Rattle.stn_records.proofs.Lists.{amendment_told}
use Rattle.stn_records.proofs.state.is_amendment.Goals as goal

pub returns-in-Plain : goal.returns-in-Plain
returns-in-Plain g c = search (rules, amendment_told)
