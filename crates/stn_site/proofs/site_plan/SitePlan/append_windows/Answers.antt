use Rattle.std.proofs.{Common.{◌≡◌, ℤ, pos, ◌+◌, ◌≤◌, ◌++◌, slice_index_or, sym, ap, ◌∙◌, false, arith, append_assoc}, lemmas.{List.get_or_default, Grind.common_steps}}
use Rattle.stn_net.specs.Event.{most_events}
use Rattle.stn_lift.specs.PlanSource.{events_of}
use Rattle.stn_site.{specs.{Bounds.all_bounds, Lines.window_line, Report.is_done, Windows.window_at}, proofs.{Printing.one_more_line, Values.held_is}}
use Rattle.stn_site.proofs.site_plan.SitePlan.append_windows.Goals as goal

pub loop-before-preserved : goal.loop-before-preserved
loop-before-preserved g c =
    let source = c.args.self.now.source in
    let state = c.args.self.now.state in
    let windows = c.args.windows.now in
    let event = c.unwrap-event.result in
    let seen = c.loop-before.invariant.lines in
    let is = held_is c.new.result event (c.loop-before.before + 1) c.unwrap-event.ensures c.new.ensures.value in
    let events = c.events-before-end.ensures.value ∙ ap events_of c.base.ensures in
    let place : c.from.result + 1 ≡ event = ap (λ n. n + 1) c.from.ensures ∙ sym is in
    let mark : c.from-in-loop-before.result + 1 ≡ event = ap (λ n. n + 1) c.from-in-loop-before.ensures ∙ sym is in
    let within : event ≤ events_of source = omega (arith, is, events, c.loop-before-test.true) in
    let known : event ≤ most_events = omega arith in
    let here : (other : ℤ × ℤ) → slice_index_or windows (c.from.result + 1) other ≡ window_at windows event =
    λ other. get_or_default windows (c.from.result + 1) other (pos 0, pos 0) (omega (arith, place, within, c.requires.one_each)) ∙ ap (window_at windows) place in
    let flag : slice_index_or c.done_flags-done.result (c.from-in-loop-before.result + 1) false ≡ is_done state event =
    c.done_flags-done.ensures.done (c.from-in-loop-before.result + 1) (omega (arith, mark, known)) ∙ ap (is_done state) mark in
    let earliest = (window_at windows event).0 in
    let latest = (window_at windows event).1 in
    let last = window_line event earliest latest (is_done state event) in
    record {
      lines = (
        seen.0 ++ last,
        one_more_line (all_bounds source state) (is_done state) c.loop-before.before event earliest latest seen.0 seen.1 is (c.requires.each event within),
        c.in_ok-append_window_line.ensures.line
            ∙ (λ i. c.loop-before.out.items ++ window_line event (here c.index-windows-from.result i).0 (here c.index-windows-from-in-loop-before.result i).1 (flag i))
            ∙ ap (λ front. front ++ last) seen.2 ∙ append_assoc c.extend_from_slice.new.self.items seen.0 last,
      );
      short = omega (arith, c.loop-before.invariant.short, c.in_ok-append_window_line.ensures.short);
    }

pub returns-clause-part : goal.returns-clause-part
returns-clause-part g c = grind (arith, common_steps)
