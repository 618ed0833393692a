use Rattle.std.proofs.Common.{◌++◌, ap, ◌∙◌}
use Rattle.stn_lift.specs.PlanSource.{base_bounds, events_of}
use Rattle.stn_site.specs.Bounds.{all_bounds}
use Rattle.stn_questions.proofs.Foretold.{all_in, soonest_found}
use Rattle.stn_questions.proofs.foresight.soonest_of.Goals as goal

pub returns : goal.returns
returns g c =
    let source = c.args.plan.now.source in
    let state = c.args.plan.now.state in
    let own = c.bounds.ensures.value ∙ ap base_bounds c.base-base.ensures in
    soonest_found (c.bounds.result.now ++ c.deref.result.now) (all_bounds source state) c.events.result (events_of source) c.args.done.now c.args.now c.soonest.result
    (all_in source state _ _ _ own c.deref.ensures.value c.in_ok-live.ensures.value) (c.events.ensures.value ∙ ap events_of c.base-base.ensures) c.events.ensures.small c.soonest.ensures
