-- An axis of time with its ticks.
use Rattle.std.specs.{Prelude.{ℕ, ◌+◌, ◌-◌, ◌*◌, ◌/◌, ◌==◌, nat_lt, max, List, [], ◌++◌, codes, decimal, if◌then◌else◌}, List.{flat_map, range_with_len}}
use Rattle.stn_drawing.specs.Axis.{gap_of, gaps_in, unit_of, unit_text}

-- an axis as it is drawn: where it begins, and how wide it is, in units; how long it is, and the gap between two ticks, in milliseconds; how
-- many ticks stand before that of the time 0, and how many there are; where their lines end
pub record Axis : Type 0 where
  pub left : ℕ
  pub width : ℕ
  pub long : ℕ
  pub gap : ℕ
  pub before : ℕ
  pub ticks : ℕ
  pub bottom : ℕ

-- the axis of such a place and width that reaches so far before the time 0 and so far after it
abbrev pub axis_reaching : ℕ → ℕ → ℕ → ℕ → ℕ → Axis
axis_reaching left width before after bottom = record {
  left = left;
  width = width;
  long = max (gap_of before after * (gaps_in (gap_of before after) before + gaps_in (gap_of before after) after)) 1;
  gap = gap_of before after;
  before = gaps_in (gap_of before after) before;
  ticks = gaps_in (gap_of before after) before + gaps_in (gap_of before after) after + 1;
  bottom = bottom;
}

-- where a time stands that is so long after the beginning: in proportion, rounded down
abbrev pub place_on : Axis → ℕ → ℕ
place_on axis far = axis.left + axis.width * far / axis.long

-- where a tick stands
abbrev pub tick_place : Axis → ℕ → ℕ
tick_place axis tick = place_on axis (axis.gap * tick)

abbrev pub tick_line : Axis → ℕ → List ℕ
tick_line axis tick = codes "M" ++ decimal (tick_place axis tick) ++ codes " 50V" ++ decimal axis.bottom

-- how many units it is after the time 0, or before it, with a sign; the unit stands at 0
abbrev pub tick_count : Axis → ℕ → List ℕ
tick_count axis tick =
    if nat_lt tick axis.before then codes "-" ++ decimal (axis.gap * (axis.before - tick) / unit_of axis.gap)
    else decimal (axis.gap * (tick - axis.before) / unit_of axis.gap) ++ (if tick == axis.before then unit_text axis.gap else [])

abbrev pub tick_words : Axis → ℕ → List ℕ
tick_words axis tick = codes "<tspan x='" ++ decimal (tick_place axis tick) ++ codes "'>" ++ tick_count axis tick ++ codes "</tspan>"

-- the lines of the ticks, and the words above them
abbrev pub axis_text : Axis → List ℕ
axis_text axis = codes "<path class='g' d='" ++ flat_map (tick_line axis) (range_with_len 0 axis.ticks) ++ codes "'/>\n<text class='s m' y='44'>"
    ++ flat_map (tick_words axis) (range_with_len 0 axis.ticks) ++ codes "</text>\n"
