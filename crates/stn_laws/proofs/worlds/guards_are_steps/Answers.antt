use Rattle.stn_laws.proofs.worlds.GuardSteps.{guard_steps}
use Rattle.stn_laws.proofs.worlds.guards_are_steps.Goals as goal

pub returns : goal.returns
returns c = λ world site there owned ids new adds accepted. guard_steps world site there owned ids new adds accepted
