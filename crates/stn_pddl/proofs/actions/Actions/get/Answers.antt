use Rattle.stn_pddl.proofs.ActionMaps.{named-found}
use Rattle.stn_pddl.proofs.actions.Actions.get.Goals as goal

pub returns : goal.returns
returns g c = named-found c.args.name.bytes.now c.self.inside.by_name.entries _ c.self.invariant c.self.view_is c.get.ensures.value
