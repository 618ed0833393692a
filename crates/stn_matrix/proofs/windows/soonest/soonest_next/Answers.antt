use Rattle.stn_net.{specs.Schedule.times_of, proofs.Readiness.left_within}
use Rattle.stn_matrix.proofs.Soonest.{soonest_is_first}
use Rattle.stn_matrix.proofs.windows.soonest.soonest_next.Goals as goal

pub returns-in-Some : goal.returns-in-Some
returns-in-Some c = λ bounds now soonest.
    let comes = c.in-Some.ensures in
    soonest_is_first bounds c.args.done.now now (times_of c.args.times.now) soonest c.in-Some.first.0 c.in-Some.first.1 comes.left comes.at
    (λ other left. comes.first other (left_within c.args.done.now other left) left)
