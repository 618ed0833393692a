use Rattle.std.proofs.Common.{◌≡◌, ◌++◌, append_assoc, ◌∙◌}
use Rattle.stn_drawing.proofs.Grown.{on_ok, then, last}
use Rattle.stn_chart.specs.Frame.{counts_text}
use Rattle.stn_chart.proofs.look.Chart.append_summary.Goals as goal

pub returns : goal.returns
returns g c =
    let out = c.args.out.now.items in
    let steps = c.args.self.now.steps in
    let written : c.write.new.self.items ≡ out ++ counts_text c.count_of-done.result steps c.count_of-running.result = on_ok _ c.write.result c.in_ok-in_memory.ensures c.write.ensures.bytes ∙ simp append_assoc in
    let counts = written ∙ (λ i. out ++ counts_text (c.count_of-done.ensures i) steps (c.count_of-running.ensures i)) in
    let overdue = then out _ _ counts c.in_ok-append_overdue.ensures in
    let now = then out _ _ overdue c.in_ok-append_now.ensures in
    last c.extend_from_slice.result out _ _ _ now c.extend_from_slice.ensures.items (simp append_assoc)
