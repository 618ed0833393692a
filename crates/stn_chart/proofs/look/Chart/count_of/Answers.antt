use Rattle.std.{proofs.Common.{◌+◌, refl, ap, ◌∙◌}, specs.Int.from_bool}
use Rattle.stn_chart.{specs.{Parts.shows, Seen.seen_chart}, proofs.Drawing.count_step}
use Rattle.stn_chart.proofs.look.Chart.count_of.Goals as goal

pub loop-before-preserved : goal.loop-before-preserved
loop-before-preserved g c =
    count_step (shows (seen_chart c.args.self.now) c.args.part) c.loop-before.before c.loop-before.count c.from-count.result (c.loop-before.count + c.from-count.result) c.loop-before.invariant.0 c.loop-before.invariant.1
    (c.from-count.ensures ∙ ap from_bool c.shows.ensures) refl
