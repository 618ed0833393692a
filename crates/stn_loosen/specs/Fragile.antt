-- What is not robust of a plan: bounds on the starts of its steps that contradict each other, and how they are told.
use Rattle.std.specs.{Prelude.{◌≡◌, ◌⊎◌, ℕ, ◌+◌, ◌-◌, ◌/◌, ◌==◌, nat_lt, List, [], ◌++◌, codes, decimal, Option, Some, None, if◌then◌else◌}, List.flat_map}
use Rattle.stn_net.specs.{Difference.Difference, Horizon.horizon_bounds}
use Rattle.stn_lift.specs.{BaseBounds.step_of, PlanSource.{PlanSource, events_of}}
use Rattle.stn_conflict.specs.{declared.links.Link.Link, Arcs.{bound_at, IsNegativeCycle}}
use Rattle.stn_site.specs.{declared.names.BoundName.TheVariants.Plan, Names.name_text, Lines.{line, side_text, limit_text}}
use Rattle.stn_loosen.specs.{Slack.Slack, Promise.setting_of, Moved.moved_bounds, Loosened.loose_durations, Robust.{loose_bounds, HasPromise}}

-- the bounds on starts: the horizon's, and then both sides of each bound of the loosened plan, moved to the starts
abbrev pub start_bounds : PlanSource → Slack → List Difference
start_bounds source slack = horizon_bounds (events_of source) ++ moved_bounds (loose_durations slack source) (loose_bounds source slack)

-- the place, among the plan's bounds, of the bound that one on starts comes from
abbrev pub origin_place : ℕ → ℕ → ℕ
origin_place events place = if nat_lt place events then place else (place - events) / 2

-- the step whose duration sets an event, where one does
abbrev pub mover : List Difference → ℕ → Option ℕ
mover durations event = if (setting_of durations event).from == event then None else Some (step_of event)

abbrev pub step_text : Option ℕ → List ℕ
step_text None = []
step_text (Some step) = codes " " ++ decimal step

-- ` by` and the steps, if there are any
abbrev pub by_text : Option ℕ → Option ℕ → List ℕ
by_text None None = []
by_text from to = codes " by" ++ (step_text from ++ step_text to)

-- the steps whose durations move a bound; those of the horizon that come first are not moved
abbrev pub mover_text : List Difference → ℕ → ℕ → Difference → List ℕ
mover_text durations events place bound = if nat_lt place events then [] else by_text (mover durations bound.from) (mover durations bound.to)

-- a bound with the sides of another
abbrev pub with_sides : Difference → Difference → Difference
with_sides bound other = record bound { lo = other.lo; hi = other.hi }

-- the line of a link of the bounds on starts: that of the plan's bound, as in a conflict, but with its side as moved, and then the steps
-- whose durations move it
module _ (events : ℕ) (durations bounds starts : List Difference) where
  abbrev pub start_line : Link → List ℕ
  start_line link =
      let place = origin_place events link.place in
      let bound = bound_at bounds place in
      line (name_text (Plan (place + 1)) ++ (codes " " ++ (side_text link.side ++ (codes " "
      ++ (limit_text (with_sides bound (bound_at starts link.place)) link.side ++ mover_text durations events link.place bound)))))

-- the lines of links of the bounds on starts
abbrev pub start_lines : PlanSource → Slack → List Link → List ℕ
start_lines source slack links =
    flat_map (start_line (events_of source) (loose_durations slack source) (loose_bounds source slack) (start_bounds source slack)) links

-- the text has the lines of a closed chain of bounds on starts with a negative sum, which no times of the starts meet; or the plan has a
-- promise, and it is empty
abbrev pub TellsFragile : PlanSource → Slack → List ℕ → Type 0
TellsFragile source slack text =
    ((links : List Link) × IsNegativeCycle (start_bounds source slack) links × (text ≡ start_lines source slack links))
    ⊎ (HasPromise source slack × (text ≡ []))
