use Rattle.std.proofs.Common.{◌≡◌, ◌||◌, not, Bool, List, ap, subst, ◌∙◌, arith}
use Rattle.stn_lift.specs.PlanSource.{events_of}
use Rattle.stn_site.{specs.{Report.is_done, Own.{is_own, done_or_others}}, proofs.Rest.flags_are}
use Rattle.stn_command.specs.Query.{Foresees}
use Rattle.stn_command.proofs.queries.of_own.Goals as goal

pub returns : goal.returns
returns g c =
    let source = c.args.plan.now.source in
    let state = c.args.plan.now.state in
    let own = c.args.own.now in
    let events : c.events.result ≡ events_of source = c.events.ensures.value ∙ ap events_of c.base.ensures in
    let left : c.flags_within-done.result.now ≡ done_or_others own source state =
    flags_are (λ event. is_done state event || not (is_own own event)) source c.events.result c.flags_among-flags.result c.flags_within-done.result.now events
    c.flags_within-done.ensures.value c.flags_within-done.ensures.one_each
    (λ event within. c.flags_among-flags.ensures.left event (omega (arith, within, c.events.ensures.small))) in
    subst (λ (done : List Bool). Foresees c.args.outlook c.args.now done c.args.plan.now c.foresee_with.result) left c.foresee_with.ensures
