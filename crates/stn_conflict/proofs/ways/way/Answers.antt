use Rattle.stn_conflict.proofs.ways.way.Goals as goal

pub way_to-requires-clause-far : goal.way_to-requires-clause-far
way_to-requires-clause-far g c = rw c.deref.ensures.value (rw c.in-Some.is at c.in_ok-search.ensures).2

pub returns : goal.returns
returns g c = rw (c.deref.ensures.value, (rw c.in-Some.is at c.in_ok-search.ensures).0.far) at c.in_ok-way_to.ensures
