use Rattle.std.proofs.Common.{refl}
use Rattle.stn_net.proofs.bound.Bound.new.Goals as goal

pub returns-else-gt-clause-made : goal.returns-else-gt-clause-made
returns-else-gt-clause-made c = refl
