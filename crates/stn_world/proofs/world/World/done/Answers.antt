use Rattle.stn_world.proofs.world.World.done.Goals as goal

pub returns-clause-step : goal.returns-clause-step
returns-clause-step g c = c.change.ensures.step
