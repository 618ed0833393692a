use Rattle.std.proofs.Common.{arith}
use Rattle.stn_pddl.{proofs.ActionMaps.taken-lookup}
use Rattle.stn_pddl.proofs.actions.Actions.is_taken.Goals as goal

pub returns : goal.returns
returns g c = grind (arith, taken-lookup)
