use Rattle.stn_store.proofs.merging.find_same.Goals as goal

pub returns-then-same : goal.returns-then-same
returns-then-same g c = c.same.ensures.0 c.if-same.true
