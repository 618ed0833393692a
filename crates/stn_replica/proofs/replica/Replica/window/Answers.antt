use Rattle.stn_replica.proofs.Sound.{settled_exact}
use Rattle.stn_replica.proofs.replica.Replica.window.Goals as goal

pub returns-then-self : goal.returns-then-self
returns-then-self g c =
    let exact = settled_exact c.if-self.true c.self.invariant.settled in
    rw (← c.self.view_is) (exact.possible, c.window.ensures _ exact)
