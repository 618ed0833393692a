use Rattle.stn_refusal.proofs.refusal.Refusal.at.Goals as goal

pub returns : goal.returns
returns c = c.placed.ensures
