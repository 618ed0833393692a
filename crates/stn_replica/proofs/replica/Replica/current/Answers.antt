use Rattle.stn_replica.proofs.replica.Replica.current.Goals as goal

pub returns-then-self-clause-exact : goal.returns-then-self-clause-exact
returns-then-self-clause-exact g c = rw (← c.self.view_is) (rw c.if-self.true at c.self.invariant.settled)
