-- What is drawn of a plan.
use Rattle.std.specs.{Prelude.{◌≡◌, ◌⊎◌, ℕ, ℤ, zero, suc, ◌+◌, ◌-◌, ◌*◌, ◌+ℤ◌, ◌-ℤ◌, ◌==◌, nat_lt, int_lt, max, Bool, not, ◌&&◌, ◌||◌, if◌then◌else◌, List, [], ◌∷◌, ◌++◌, map, filter, find, length, Option, Some, None, unsigned_abs}, List.range_with_len, Int.is_negative, Option.option_or, Ordering.int_eq}
use Rattle.stn_time.specs.Time.{horizon}
use Rattle.stn_net.specs.{Difference.Difference, Schedule.HasSchedule}
use Rattle.stn_lift.specs.{BaseBounds.step_of, PlanSource.{PlanSource, steps_of, events_of}}
use Rattle.stn_records.specs.Content.{Content}
use Rattle.stn_site.specs.{Bounds.all_bounds, Report.{is_done, done_events}, Windows.{window_at, AreWindows}, declared.own.OwnedSteps.OwnedSteps}
use Rattle.stn_drawing.specs.Ticks.{Axis, axis_reaching}
use Rattle.stn_chart.specs.{Places.{line_left, line_width, row_top}, declared.look.Look.Look as LookOfCode}

-- how a plan is drawn: the title, the present, if it is shown, whether there are arrows, and which steps a site owns
pub record Look : Type 0 where
  pub title : List ℕ
  pub present : Option ℤ
  pub arrows : Bool
  pub owned : List OwnedSteps

-- the look that the code has
abbrev pub seen_look : LookOfCode → Look
seen_look look = record { title = look.title.now; present = look.present; arrows = look.arrows; owned = look.owned.now }

-- the event comes at the time or later
abbrev pub floor : ℤ → ℕ → Difference
floor now event = record { from = 0; to = event; lo = now; hi = horizon }

-- each event that is left comes now or later
abbrev pub floors_at : Content → ℕ → ℤ → List Difference
floors_at state events now = map (floor now) (filter (λ event. not (is_done state event)) (range_with_len 1 events))

-- the same, if the present is shown
abbrev pub floors : Content → ℕ → Option ℤ → List Difference
floors state events None = []
floors state events (Some now) = floors_at state events now

-- the event is left, and its latest time is past
abbrev pub is_overdue : Content → List (ℤ × ℤ) → ℤ → ℕ → Bool
is_overdue state windows now event = not (is_done state event) && int_lt (window_at windows event).1 now

-- what is left comes too late: the first overdue event of so many, if the present is shown
abbrev pub overdue_event : Content → List (ℤ × ℤ) → ℕ → Option ℤ → Option ℕ
overdue_event state windows events None = None
overdue_event state windows events (Some now) = find (is_overdue state windows now) (range_with_len 1 events)

-- the windows that are drawn, and the overdue event, if there is one: those of all bounds if each event that is left comes now or later,
-- if they have a schedule; else those of all bounds
abbrev pub AreDrawn : PlanSource → Content → Option ℤ → List (ℤ × ℤ) → Option ℕ → Type 0
AreDrawn source state now windows overdue =
    (AreWindows (all_bounds source state ++ floors state (events_of source) now) (events_of source) windows × (overdue ≡ None))
    ⊎ ((¬ HasSchedule (all_bounds source state ++ floors state (events_of source) now)) × AreWindows (all_bounds source state) (events_of source) windows
    × (overdue ≡ overdue_event state windows (events_of source) now))

-- the start and the end of a step
abbrev pub start_of : ℕ → ℕ
start_of step = 2 * step - 1

abbrev pub end_of : ℕ → ℕ
end_of step = 2 * step

-- the soonest and the latest time of an event, in milliseconds
abbrev pub soonest_in : List (ℤ × ℤ) → ℕ → ℕ
soonest_in windows event = unsigned_abs (window_at windows event).0

abbrev pub latest_in : List (ℤ × ℤ) → ℕ → ℕ
latest_in windows event = unsigned_abs (window_at windows event).1

-- the milliseconds of half a year
abbrev pub half_year : ℕ
half_year = 15768000000

-- the event has no latest time: it may come later than at the soonest, and later than half a year, as the horizon is a year
abbrev pub is_open_in : List (ℤ × ℤ) → ℕ → Bool
is_open_in windows event = nat_lt (max half_year (soonest_in windows event)) (latest_in windows event)

-- one step stands above another: its soonest start comes first, or at the same time, and its number is less
abbrev pub is_above : List (ℤ × ℤ) → ℕ → ℕ → Bool
is_above windows step other =
    nat_lt (soonest_in windows (start_of other)) (soonest_in windows (start_of step))
    || ((soonest_in windows (start_of other) == soonest_in windows (start_of step)) && nat_lt other step)

-- the row of a step, of so many: how many stand above it
abbrev pub row_in : List (ℤ × ℤ) → ℕ → ℕ → ℕ
row_in windows steps step = length (filter (is_above windows step) (range_with_len 1 steps))

-- the event comes at the soonest as long before the end of the bound as its upper side allows, or as soon after its beginning as its
-- lower side asks
abbrev pub holds_upper : List (ℤ × ℤ) → ℕ → Difference → Bool
holds_upper windows event bound = int_eq ((window_at windows bound.to).0 -ℤ bound.hi) (window_at windows event).0

abbrev pub holds_lower : List (ℤ × ℤ) → ℕ → Difference → Bool
holds_lower windows event bound = int_eq ((window_at windows bound.from).0 +ℤ bound.lo) (window_at windows event).0

-- the event is one of another step, and not the origin
abbrev pub is_of_another : ℕ → ℕ → Bool
is_of_another step event = not (event == 0) && not (step_of event == step)

-- the event of another step by whose time the bound holds the soonest start of a step
abbrev pub held_by : List (ℤ × ℤ) → ℕ → Difference → Option ℕ
held_by windows step bound =
    if (bound.from == start_of step) && (is_of_another step bound.to && holds_upper windows (start_of step) bound) then Some bound.to
    else (if (bound.to == start_of step) && (is_of_another step bound.from && holds_lower windows (start_of step) bound) then Some bound.from else None)

-- that of the first of the bounds that has one
abbrev pub holder_in : List (ℤ × ℤ) → ℕ → List Difference → Option ℕ
holder_in windows step [] = None
holder_in windows step (bound ∷ bounds) = option_or (held_by windows step bound) (holder_in windows step bounds)

-- the present in milliseconds
abbrev pub moment_of : Option ℤ → ℕ
moment_of None = 0
moment_of (Some now) = if is_negative now then 0 else unsigned_abs now

-- how far the axis has to reach for an event: to its latest time, or to its soonest if it has none
abbrev pub reach : List (ℤ × ℤ) → ℕ → ℕ
reach windows event = if is_open_in windows event then soonest_in windows event else latest_in windows event

-- the later of a time and how far the axis has to reach for any of so many events after the others
abbrev pub furthest : List (ℤ × ℤ) → ℕ → ℕ
furthest windows zero = 0
furthest windows (suc events) = max (furthest windows events) (reach windows (suc events))

-- how far the axis reaches: past each of the times, and past the present
abbrev pub axis_reach : List (ℤ × ℤ) → ℕ → Option ℤ → ℕ
axis_reach windows events now = max (furthest windows events) (moment_of now) + 1

-- the axis of a plan of so many steps
abbrev pub axis_for : List (ℤ × ℤ) → ℕ → Option ℤ → ℕ → Axis
axis_for windows events now steps = axis_reaching line_left line_width 0 (axis_reach windows events now) (row_top steps)

-- what is drawn: how, the names of the steps, if they have any, how many these are, the windows of the origin and of all events, which of
-- them are done, the row of each step and the event that holds each step's start, if one does, the overdue event, if there is one, and
-- the axis
pub record Chart : Type 0 where
  pub look : Look
  pub names : List (List ℕ)
  pub steps : ℕ
  pub windows : List (ℤ × ℤ)
  pub done : List Bool
  pub rows : List ℕ
  pub holders : List (Option ℕ)
  pub overdue : Option ℕ
  pub axis : Axis

-- the chart of a plan and a state with these windows
abbrev pub chart_of : Look → List (List ℕ) → PlanSource → Content → List (ℤ × ℤ) → Option ℕ → Chart
chart_of look names source state windows overdue = record {
  look = look;
  names = names;
  steps = steps_of source;
  windows = windows;
  done = done_events source state;
  rows = map (row_in windows (steps_of source)) (range_with_len 0 (steps_of source + 1));
  holders = map (λ step. holder_in windows step (all_bounds source state)) (range_with_len 0 (steps_of source + 1));
  overdue = overdue;
  axis = axis_for windows (events_of source) look.present (steps_of source);
}
