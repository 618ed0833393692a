use Rattle.std.proofs.Common.{◌≡◌, ◌≤◌, ◌++◌, false, slice_index_or, ap, ◌∙◌, arith}
use Rattle.stn_net.{specs.{Event.most_events, Windows.Window.IsWindow}, proofs.WindowEnds.window_of_ends}
use Rattle.stn_site.specs.{Bounds.all_bounds, Lines.window_line, Report.is_done}
use Rattle.stn_questions.proofs.Reasons.{reason_part}
use Rattle.stn_questions.proofs.why.text_of.Goals as goal

pub returns : goal.returns
returns g c =
    let source = c.args.plan.now.source in
    let state = c.args.plan.now.state in
    let event = c.args.event in
    let ends = c.args.ends.now in
    let hold = c.requires.ends in
    let within : c.from.result ≤ most_events = omega (arith, c.from.ensures, c.number.ensures.within) in
    let flag : slice_index_or c.done_flags-flags.result c.from.result false ≡ is_done state event =
    c.done_flags-flags.ensures.done c.from.result within ∙ ap (is_done state) (c.from.ensures ∙ c.number.ensures.value) in
    reason_part source state 0 event (λ bounds. IsWindow bounds event) (λ earliest latest. window_line event earliest latest (is_done state event)) _ _ ends
    c.append_window_line.new.out.items c.append_ends.new.out.items
    hold (window_of_ends (all_bounds source state) event ends.onward.sum ends.back.sum hold.onward.tightest hold.back.tightest)
    (c.in_ok-append_window_line.ensures.line ∙ (λ i. c.new-text.ensures.items i ++ window_line event (c.times_of-earliest.ensures.0 i) (c.times_of-earliest.ensures.1 i) (flag i)))
    c.in_ok-append_ends.ensures
