use Rattle.std.{proofs.Common.{◌≡◌, ◌+◌, ◌++◌, ℕ, List, map, ap, ◌∙◌}, specs.List.range_with_len}
use Rattle.stn_lift.specs.PlanSource.{base_bounds, steps_of, events_of}
use Rattle.stn_drawing.specs.Ticks.{axis_reaching}
use Rattle.stn_chart.specs.{Chart.{Chart, seen_look, row_in, holder_in, axis_reach, chart_of}, Frame.plan_text, Places.{line_left, line_width, row_top}}
use Rattle.stn_chart.proofs.chart.text_of.Goals as goal

pub returns : goal.returns
returns g c =
    let source = c.args.plan.now.source in
    let state = c.args.plan.now.state in
    let look = seen_look c.args.look.now in
    let names : List (List ℕ) = map (λ name. name.items) c.args.names.now in
    let windows = c.args.drawn.now.windows.items in
    let present = c.args.look.now.present in
    let overdue = c.args.drawn.now.overdue in
    let steps : c.steps-steps.result ≡ steps_of source = c.steps-steps.ensures.value ∙ ap steps_of c.base-base.ensures in
    let events : c.events.result ≡ events_of source = c.events.ensures.value ∙ ap events_of c.base-base.ensures in
    let base = c.bounds.ensures.value ∙ ap base_bounds c.base-base.ensures in
    let live = c.deref-3.ensures.value ∙ c.in_ok-live.ensures.value in
    let done = c.deref-6.ensures.value ∙ c.in_ok-done.ensures in
    let rows = c.deref-7.ensures.value ∙ c.in_ok-rows.ensures ∙ (λ i. map (row_in (c.deref.ensures.value i) (steps i)) (range_with_len 0 (steps i + 1))) in
    let holders = c.deref-8.ensures.value ∙ c.in_ok-holders.ensures
    ∙ (λ i. map (λ step. holder_in (c.deref-2.ensures.value i) step (base i ++ live i)) (range_with_len 0 (steps i + 1))) in
    let far = c.axis_reach-far.ensures.value ∙ (λ i. axis_reach (c.deref-4.ensures.value i) (events i) present) in
    let bottom = c.row_top-bottom.ensures.value ∙ ap row_top (c.from.ensures ∙ steps) in
    let axis = c.reaching.ensures ∙ (λ i. axis_reaching line_left line_width 0 (far i) (bottom i)) in
    let chart : Chart = chart_of look names source state windows overdue in
    c.in_ok-append.ensures
    ∙ (λ i. c.new-text.ensures.items i ++ plan_text (record {
      look = look;
      names = names;
      steps = steps i;
      windows = c.deref-5.ensures.value i;
      done = done i;
      rows = rows i;
      holders = holders i;
      overdue = overdue;
      axis = axis i;
    }))
