use Rattle.std.proofs.Common.{arith}
use Rattle.stn_net.specs.{Schedule.times_of, Windows.Soonest.AreSoonest}
use Rattle.stn_lift.specs.PlanSource.{events_of}
use Rattle.stn_site.specs.Bounds.{all_bounds}
use Rattle.stn_questions.specs.Foresight.{AreSoonestOf}
use Rattle.stn_questions.proofs.foresight.next_with.Goals as goal

pub soonest_next-requires-clause-few : goal.soonest_next-requires-clause-few
soonest_next-requires-clause-few g c = omega (arith, rw c.in-Soonest.is at c.in_ok-look_ahead.ensures)

pub returns-in-Soonest : goal.returns-in-Soonest
returns-in-Soonest g c =
    let source = c.args.plan.now.source in
    let bounds = all_bounds source c.args.plan.now.state in
    let found : AreSoonestOf bounds (events_of source) c.args.done.now c.args.now c.in-Soonest.times.items = rw c.in-Soonest.is at c.in_ok-look_ahead.ensures in
    let soonest : AreSoonest bounds c.args.done.now c.args.now (times_of c.deref.result.now) = rw c.deref.ensures.value found.soonest in
    ((times_of c.deref.result.now, soonest.schedule), c.soonest_next.ensures bounds c.args.now soonest)
