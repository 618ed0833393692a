-- The chart that the code has, and the bounds of what is left.
use Rattle.std.specs.Prelude.{ℕ, ℤ, Bool, List, [], ◌∷◌, map, if◌then◌else◌}
use Rattle.stn_net.specs.Difference.{Difference}
use Rattle.stn_drawing.specs.Seen.{seen_axis}
use Rattle.stn_chart.specs.{declared.look.Chart.Chart as ChartOfCode, Chart.{Chart, seen_look, floor}}

abbrev pub seen_chart : {A : Type 0} → ChartOfCode A → Chart
seen_chart chart = record {
  look = seen_look chart.look.now;
  names = map (λ name. name.items) chart.names.now;
  steps = chart.steps;
  windows = chart.windows.now;
  done = chart.done.now;
  rows = chart.rows.now;
  holders = chart.holders.now;
  overdue = chart.overdue;
  axis = seen_axis chart.axis;
}

-- the bound that an event comes now or later, where it is left
abbrev pub present_floor : Bool → ℤ → ℕ → List Difference
present_floor done now event = if done then [] else floor now event ∷ []
