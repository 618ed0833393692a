use Rattle.std.proofs.Common.{◌++◌, ap, ◌∙◌}
use Rattle.stn_lift.specs.PlanSource.{base_bounds, events_of}
use Rattle.stn_questions.proofs.{Foretold.all_in, Reasons.ends_found}
use Rattle.stn_questions.proofs.ends.ends_of.Goals as goal

pub returns : goal.returns
returns g c =
    let source = c.args.plan.now.source in
    let state = c.args.plan.now.state in
    let own = c.bounds.ensures.value ∙ ap base_bounds c.base-base.ensures in
    ends_found source state c.args.from c.args.to c.events.result (c.bounds.result.now ++ c.deref.result.now) c.both_ways.result
    (all_in source state _ _ _ own c.deref.ensures.value c.in_ok-live.ensures.value) (c.events.ensures.value ∙ ap events_of c.base-base.ensures)
    c.both_ways.ensures.none c.both_ways.ensures.onward c.both_ways.ensures.back
