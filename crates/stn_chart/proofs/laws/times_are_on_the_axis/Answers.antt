use Rattle.stn_chart.proofs.AxisEnd.{soonest_on_axis, latest_on_axis}
use Rattle.stn_chart.proofs.laws.times_are_on_the_axis.Goals as goal

pub returns : goal.returns
returns c = record {
  soonest = soonest_on_axis;
  latest = latest_on_axis;
}
