use Rattle.stn_pddl.proofs.SoundActions.{named-sound}
use Rattle.stn_pddl.proofs.domain.Domain.action.Goals as goal

pub returns-clause-sound : goal.returns-clause-sound
returns-clause-sound g c = named-sound c.get.result c.args.name.now c.self.inside.actions c.self.invariant.sound c.get.ensures

pub returns-clause-found : goal.returns-clause-found
returns-clause-found g c = rw (← c.self.view_is) c.get.ensures
