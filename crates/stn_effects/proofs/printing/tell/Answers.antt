use Rattle.std.proofs.Common.{rules}
use Rattle.stn_effects.proofs.printing.tell.Goals as goal

pub returns : goal.returns
returns g c = search rules
