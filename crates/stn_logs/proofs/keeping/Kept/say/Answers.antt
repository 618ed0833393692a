use Rattle.stn_logs.proofs.keeping.Kept.say.Goals as goal

pub returns : goal.returns
returns g c = c.say-said.ensures.said
