use Rattle.std.proofs.Common.{◌≡◌, ◌++◌, sym, ◌∙◌, append_assoc}
use Rattle.stn_lift.specs.PlanSource.{events_of, base_bounds}
use Rattle.stn_site.specs.Bounds.{all_bounds, live_bounds}
use Rattle.stn_chart.specs.Chart.{floors}
use Rattle.stn_chart.proofs.floors.windows_from.Goals as goal

pub returns : goal.returns
returns g c =
    let source = c.args.plan.now.source in
    let state = c.args.plan.now.state in
    let more = floors state (events_of source) c.args.now in
    let bounds : base_bounds c.base.result.now ++ c.deref.result.now ≡ all_bounds source state ++ more =
    (λ i. base_bounds (c.base.ensures i) ++ (c.deref.ensures.value ∙ c.in_ok-live_and_floors.ensures.bounds) i) ∙ sym (append_assoc (base_bounds source) (live_bounds state) more) in
    rw (bounds, c.base.ensures) at c.windows_with.ensures
