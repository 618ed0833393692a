use Rattle.stn_world.proofs.world.World.amend.Goals as goal

pub returns-clause-step : goal.returns-clause-step
returns-clause-step g c = rw c.new.ensures at c.change.ensures.step
