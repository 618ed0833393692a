use Rattle.std.{proofs.Common.{◌+◌, refl, ap, ◌∙◌}, specs.Int.from_bool}
use Rattle.stn_chart.{specs.Chart.is_above, proofs.Drawing.count_step}
use Rattle.stn_chart.proofs.tables.row_in.Goals as goal

pub loop-before-preserved : goal.loop-before-preserved
loop-before-preserved c =
    count_step (is_above c.args.windows.now c.args.step) c.loop-before.before c.loop-before.row c.from-row.result (c.loop-before.row + c.from-row.result) c.loop-before.invariant.0 c.loop-before.invariant.1
    (c.from-row.ensures ∙ ap from_bool c.is_above.ensures) refl
