use Rattle.std.proofs.{Common.{◌≡◌, ◌+◌, ◌++◌, refl, ap, ◌∙◌, arith}, lemmas.{Grind.common_steps, List.get_or_default}}
use Rattle.stn_chart.{specs.{Frame.{legend_base, legend_text, parts}, Places.row_top, Seen.seen_chart}, proofs.Drawing.legend_step}
use Rattle.stn_chart.proofs.look.Chart.append_legend.Goals as goal

pub loop-part-init : goal.loop-part-init
loop-part-init g c = (refl, omega arith)

pub loop-part-preserved : goal.loop-part-preserved
loop-part-preserved g c =
    let i = c.loop-part.part-index in
    let chart = seen_chart c.args.self.now in
    let base : c.row_top-base.result + 44 ≡ legend_base c.args.self.now.steps = ap (λ top. top + 44) (c.row_top-base.ensures.value ∙ ap row_top c.from.ensures) in (
      legend_step chart (legend_base c.args.self.now.steps) (c.row_top-base.result + 44) c.loop-part.left _ i parts _ (c.args.out.now.items ++ legend_text chart) c.loop-part.out.items
          c.append_entry_at.new.out.items base c.loop-part-test.true (get_or_default parts i _ _ c.loop-part-test.true) c.loop-part.invariant.0 c.in_ok-left.ensures.entry c.in_ok-left.ensures.next,
      omega (arith, c.in_ok-left.ensures.near, c.loop-part.invariant.1),
    )

pub returns : goal.returns
returns g c = grind (arith, common_steps)
