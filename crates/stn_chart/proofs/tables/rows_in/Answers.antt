use Rattle.std.proofs.{Common.{[], ◌∷◌, ◌++◌, sym, ◌∙◌, arith}, lemmas.List.FromFn.map-range_with_len_more}
use Rattle.stn_chart.specs.Chart.{row_in}
use Rattle.stn_chart.proofs.tables.rows_in.Goals as goal

pub loop-step-preserved : goal.loop-step-preserved
loop-step-preserved g c =
    let step = c.loop-step.step in
    c.in_ok-push.ensures.items
    ∙ (λ i. c.loop-step.invariant i ++ c.row_in.ensures i ∷ [])
    ∙ sym (map-range_with_len_more (row_in c.args.windows.now c.args.steps) 0 step step (omega arith))
