use Rattle.std.proofs.Common.{rules, inl, Some, ap, ◌<◌}
use Rattle.stn_lift.specs.PlanSource.{events_of}
use Rattle.stn_questions.proofs.why.print_why.Goals as goal

pub returns-then-number-events-clause-refused : goal.returns-then-number-events-clause-refused
returns-then-number-events-clause-refused g c =
    let past : events_of c.args.plan.now.source < c.args.event = search rules in
    inl (inl (past, ap Some c.from.ensures))
