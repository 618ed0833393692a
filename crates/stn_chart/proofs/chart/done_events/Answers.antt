use Rattle.std.proofs.{Common.{◌≡◌, [], ◌∷◌, ◌++◌, false, slice_index_or, sym, ap, ◌∙◌, arith}, lemmas.List.FromFn.map-range_with_len_more}
use Rattle.stn_site.specs.Report.{is_done}
use Rattle.stn_chart.proofs.chart.done_events.Goals as goal

pub loop-event-preserved : goal.loop-event-preserved
loop-event-preserved g c =
    let event = c.loop-event.event in
    let state = c.args.plan.now.state in
    let flag : slice_index_or c.done_flags-flags.result c.from.result false ≡ is_done state event =
    c.done_flags-flags.ensures.done c.from.result (omega (arith, c.from.ensures, c.loop-event-test.true, c.events-event-end.ensures.small)) ∙ ap (is_done state) c.from.ensures in
    c.in_ok-push.ensures.items
    ∙ (λ i. c.loop-event.invariant i ++ flag i ∷ [])
    ∙ sym (map-range_with_len_more (is_done state) 0 event event (omega arith))
