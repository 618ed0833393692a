use Rattle.std.proofs.Common.{◌≡◌, ◌<◌, ◌^◌}
use Rattle.stn_chart.specs.Chart.{furthest}
use Rattle.stn_chart.proofs.tables.furthest.Given as goal

abbrev pub invariant-loop-before : goal.invariant-loop-before
invariant-loop-before l = (l.last ≡ furthest l.windows l.before) × (l.last < 2 ^ 40)
