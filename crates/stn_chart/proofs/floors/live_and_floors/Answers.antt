use Rattle.std.proofs.Common.{◌≡◌, ◌+◌, ◌++◌, false, slice_index_or, sym, subst, ap, ◌∙◌, append_assoc, All, arith}
use Rattle.stn_net.specs.Difference.{NamesEvents}
use Rattle.stn_lift.specs.PlanSource.{events_of}
use Rattle.stn_site.specs.{Bounds.live_bounds, Report.is_done}
use Rattle.stn_chart.{specs.{Chart.floors_at, Seen.present_floor}, proofs.Drawing.floors_more}
use Rattle.stn_chart.proofs.floors.live_and_floors.Goals as goal

pub loop-before-preserved : goal.loop-before-preserved
loop-before-preserved g c =
    let before = c.loop-before.before in
    let state = c.args.plan.now.state in
    let now = c.in-Some.now in
    let place : c.from.result + 1 ≡ before + 1 = ap (λ n. n + 1) c.from.ensures in
    let flag : slice_index_or c.done_flags-flags.result (c.from.result + 1) false ≡ is_done state (before + 1) =
    c.done_flags-flags.ensures.done (c.from.result + 1) (omega (arith, place, c.loop-before-test.true, c.events-events.ensures.small)) ∙ ap (is_done state) place in
    let events = c.events-events.ensures.value ∙ ap events_of c.base.ensures in (
      c.in_ok-push_floor.ensures.pushed
          ∙ (λ i. c.loop-before.invariant.0 i ++ present_floor (flag i) now (before + 1))
          ∙ append_assoc (live_bounds state) (floors_at state before now) (present_floor (is_done state (before + 1)) now (before + 1))
          ∙ ap (λ more. live_bounds state ++ more) (sym (floors_more state now before)),
      subst (λ n. All (NamesEvents n) c.push_floor.new.bounds.items) events c.in_ok-push_floor.ensures.named,
    )
