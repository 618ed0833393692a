use Rattle.std.proofs.Common.{◌≡◌, ◌++◌, ◌≤◌, ◌+◌, ◌*◌, drop}
use Rattle.stn_chart.specs.{Frame.{entries_text, legend_base, parts, legend_text}, Seen.seen_chart}
use Rattle.stn_chart.proofs.look.Chart.append_legend.Given as goal

abbrev pub invariant-loop-part : goal.invariant-loop-part
invariant-loop-part g l =
    (l.initial.out.items ++ legend_text (seen_chart l.self) ≡ l.out.items ++ entries_text (seen_chart l.self) (legend_base l.self.steps) l.left (drop l.part-index parts))
    × (l.left ≤ 32 + 120 * l.part-index)
