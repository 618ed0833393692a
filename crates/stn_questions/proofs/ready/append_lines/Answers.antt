use Rattle.std.proofs.{Common.{◌++◌, ◌∙◌, ap, codes}, lemmas.List.append-nil}
use Rattle.stn_net.specs.Event.{event_text}
use Rattle.stn_site.specs.Lines.{line, times_text}
use Rattle.stn_questions.specs.Ready.{ready_line}
use Rattle.stn_text.proofs.Growing.{lines_grown}
use Rattle.stn_questions.proofs.ready.append_lines.Goals as goal

pub loop-one-preserved : goal.loop-one-preserved
loop-one-preserved g c =
    let one = c.one-item.result in
    let not_done = append-nil (event_text one.event ++ codes " " ++ times_text one.first one.last) in
    lines_grown ready_line c.args.ready.now c.loop-one.one-index one c.args.out.now.items c.loop-one.out.items c.append_window_line.new.out.items c.loop-one-test.true c.one-item.is c.loop-one.invariant
    (c.in_ok-append_window_line.ensures.line ∙ ap (λ text. c.loop-one.out.items ++ line text) not_done)
