-- The axis that the code has.
use Rattle.stn_drawing.specs.{declared.axis.Axis.Axis as AxisOfCode, Ticks.Axis}

abbrev pub seen_axis : AxisOfCode → Axis
seen_axis axis = record {
  left = axis.left;
  width = axis.width;
  long = axis.long;
  gap = axis.gap;
  before = axis.before;
  ticks = axis.ticks;
  bottom = axis.bottom;
}
