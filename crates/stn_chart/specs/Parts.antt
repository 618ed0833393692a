-- What is true of the steps of a chart.
use Rattle.std.specs.{Prelude.{ℕ, ℤ, ◌+◌, ◌-◌, ◌*◌, ◌==◌, nat_lt, nat_le, Bool, false, not, ◌&&◌, if◌then◌else◌, List, [], ◌∷◌, length, filter, slice_index_or, Option, Some, None}, List.range_with_len}
use Rattle.stn_drawing.specs.Ticks.{place_on}
use Rattle.stn_chart.specs.{Chart.{Chart, start_of, end_of, soonest_in, latest_in, is_open_in, moment_of}, Places.row_top, declared.parts.Part.Part}
use Rattle.stn_chart.specs.declared.parts.Part.TheVariants as part
use Rattle.stn_site.specs.declared.own.OwnedSteps.{OwnedSteps}

abbrev pub soonest : Chart → ℕ → ℕ
soonest chart event = soonest_in chart.windows event

abbrev pub latest : Chart → ℕ → ℕ
latest chart event = latest_in chart.windows event

abbrev pub is_open : Chart → ℕ → Bool
is_open chart event = is_open_in chart.windows event

-- some live record says when the event was executed
abbrev pub is_recorded : Chart → ℕ → Bool
is_recorded chart event = slice_index_or chart.done event false

abbrev pub is_begun : Chart → ℕ → Bool
is_begun chart step = is_recorded chart (start_of step)

abbrev pub is_step_done : Chart → ℕ → Bool
is_step_done chart step = is_begun chart step && is_recorded chart (end_of step)

abbrev pub is_running : Chart → ℕ → Bool
is_running chart step = is_begun chart step && not (is_recorded chart (end_of step))

-- its start and its end have one time each
abbrev pub is_fixed : Chart → ℕ → Bool
is_fixed chart step = (soonest chart (start_of step) == latest chart (start_of step)) && (soonest chart (end_of step) == latest chart (end_of step))

-- the event has a latest time, less than a twentieth of the axis from now
abbrev pub is_near : Chart → ℤ → ℕ → Bool
is_near chart now event = not (is_open chart event) && nat_lt (20 * latest chart event) (20 * moment_of (Some now) + chart.axis.long)

-- so near are the latest start of a step that has not begun, or the latest end of one that runs
abbrev pub is_due_at : Chart → Option ℤ → ℕ → Bool
is_due_at chart None step = false
is_due_at chart (Some now) step =
    if is_begun chart step then is_running chart step && is_near chart now (end_of step) else is_near chart now (start_of step)

abbrev pub is_due : Chart → ℕ → Bool
is_due chart step = is_due_at chart chart.look.present step

-- its end may come later than at the soonest, and has a latest time
abbrev pub may_last : Chart → ℕ → Bool
may_last chart step = not (is_open chart (end_of step)) && nat_lt (soonest chart (end_of step)) (latest chart (end_of step))

-- its start is not recorded, may come later than at the soonest, and has a latest time
abbrev pub may_wait : Chart → ℕ → Bool
may_wait chart step =
    not (is_begun chart step) && (not (is_open chart (start_of step)) && nat_lt (soonest chart (start_of step)) (latest chart (start_of step)))

-- what the legend explains, where it occurs at the step
abbrev pub shows : Chart → Part → ℕ → Bool
shows chart part.Soonest step = not (is_begun chart step) && not (is_fixed chart step)
shows chart part.Lasting step = may_last chart step && not (is_due chart step)
shows chart part.Latest step = may_wait chart step
shows chart part.Fixed step = not (is_begun chart step) && is_fixed chart step
shows chart part.Done step = is_step_done chart step
shows chart part.Running step = is_running chart step
shows chart part.Due step = is_due chart step
shows chart part.Open step = is_open chart (end_of step)

-- at how many steps it occurs
abbrev pub count_of : Chart → Part → ℕ
count_of chart one = length (filter (shows chart one) (range_with_len 1 chart.steps))

abbrev pub occurs : Chart → Part → Bool
occurs chart one = nat_lt 0 (count_of chart one)

-- the list has the step
abbrev pub has_step : OwnedSteps → ℕ → Bool
has_step owned step = nat_le owned.steps.first step && nat_le step owned.steps.last

-- the site that owns the step: that of the first of the lists that has it; 0, if none has
abbrev pub owner_in : List OwnedSteps → ℕ → ℕ
owner_in [] step = 0
owner_in (owned ∷ rest) step = if has_step owned step then owned.site else owner_in rest step

abbrev pub step_owner : Chart → ℕ → ℕ
step_owner chart step = owner_in chart.look.owned step

-- the step has a name, and which
abbrev pub is_named : Chart → ℕ → Bool
is_named chart step = nat_lt (step - 1) (length chart.names)

abbrev pub name_of : Chart → ℕ → List ℕ
name_of chart step = slice_index_or chart.names (step - 1) []

-- where a time stands, and where the row of a step begins
abbrev pub place_of : Chart → ℕ → ℕ
place_of chart time = place_on chart.axis time

abbrev pub top_of : Chart → ℕ → ℕ
top_of chart step = row_top (slice_index_or chart.rows step 0)

-- the event that holds the start of a step
abbrev pub holder_of : Chart → ℕ → Option ℕ
holder_of chart step = slice_index_or chart.holders step None
