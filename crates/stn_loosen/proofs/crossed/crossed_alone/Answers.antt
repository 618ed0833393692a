use Rattle.std.proofs.Common.{rules}
use Rattle.stn_loosen.proofs.crossed.crossed_alone.Goals as goal

pub returns-then-span : goal.returns-then-span
returns-then-span g c = search rules
