use Rattle.std.proofs.Common.{rules}
use Rattle.stn_walk.proofs.conflict.weight_of.Goals as goal

pub returns-in-Lower-clause-value : goal.returns-in-Lower-clause-value
returns-in-Lower-clause-value c = search rules
