use Rattle.std.proofs.Common.{inr, refl, arith}
use Rattle.stn_net.specs.{Schedule.{HasSchedule, times_of}, Windows.{Dispatch.IsOverdue, Soonest.AreSoonest}}
use Rattle.stn_matrix.proofs.Rehearsals.{overdue_cannot_wait, rehearsed_schedule, rehearsed_rising, rehearsed_in_time, rehearsed_once}
use Rattle.stn_lift.specs.PlanSource.{events_of}
use Rattle.stn_site.{specs.Bounds.all_bounds, proofs.Rest.rest_of_plan}
use Rattle.stn_questions.specs.Foresight.{AreSoonestOf}
use Rattle.stn_questions.proofs.foresight.rehearse_with.Goals as goal

pub soonest_runs-requires-clause-few : goal.soonest_runs-requires-clause-few
soonest_runs-requires-clause-few g c = omega (arith, rw c.in-Soonest.is at c.in_ok-look_ahead.ensures)

pub returns-in-Overdue-clause-fault : goal.returns-in-Overdue-clause-fault
returns-in-Overdue-clause-fault g c =
    let bounds = all_bounds c.args.plan.now.source c.args.plan.now.state in
    let found : HasSchedule bounds × IsOverdue bounds c.args.done.now c.args.now c.in-Overdue.event = rw c.in-Overdue.is at c.in_ok-look_ahead.ensures in
    inr (c.in-Overdue.event, refl, found.0, (found.1, overdue_cannot_wait bounds c.args.done.now c.args.now c.in-Overdue.event found.1))

pub returns-in_ok-soonest_runs-in-Soonest-clause-rest : goal.returns-in_ok-soonest_runs-in-Soonest-clause-rest
returns-in_ok-soonest_runs-in-Soonest-clause-rest g c =
    let source = c.args.plan.now.source in
    let state = c.args.plan.now.state in
    let bounds = all_bounds source state in
    let done = c.args.done.now in
    let now = c.args.now in
    let runs = c.in_ok-soonest_runs-in-Soonest.field-0.items in
    let found : AreSoonestOf bounds (events_of source) done now c.in-Soonest.times.items = rw c.in-Soonest.is at c.in_ok-look_ahead.ensures in
    let soonest : AreSoonest bounds done now (times_of c.deref.result.now) = rw c.deref.ensures.value found.soonest in
    let possible : HasSchedule bounds = (times_of c.deref.result.now, soonest.schedule) in
    let rehearsal = c.in_ok-soonest_runs-in-Soonest.ensures bounds now soonest in
    rest_of_plan source state done now runs c.requires.fixed rehearsal (rehearsed_once runs bounds done now rehearsal) (rehearsed_rising runs bounds done now rehearsal)
    (rehearsed_in_time runs bounds done now possible rehearsal) (rehearsed_schedule runs bounds done now possible rehearsal)
