-- The rows of the steps.
use Rattle.std.specs.Prelude.{ℕ, ◌+◌, ◌-◌, ◌%◌, ◌==◌, nat_lt, max, not, ◌&&◌, List, [], ◌++◌, codes, decimal, if◌then◌else◌, Option, Some, None}
use Rattle.stn_time.specs.Text.{printed}
use Rattle.stn_lift.specs.BaseBounds.{step_of}
use Rattle.stn_site.specs.Windows.{window_at}
use Rattle.stn_drawing.specs.Escape.{shown, cut}
use Rattle.stn_chart.specs.{Chart.{Chart, start_of, end_of}, Parts.{soonest, latest, is_open, is_begun, is_step_done, is_running, is_fixed, is_due, may_last, may_wait, step_owner, is_named, name_of, place_of, top_of, holder_of}, Places.{line_left, line_width, row_height, words_below, middle_below, least_width, most_name}}

-- the window of an event in words
abbrev pub latest_text : Chart → ℕ → List ℕ
latest_text chart event = if is_open chart event then codes " or later" else codes " to " ++ printed (window_at chart.windows event).1

abbrev pub window_text : Chart → ℕ → List ℕ
window_text chart event = printed (window_at chart.windows event).0 ++ latest_text chart event

-- the whole name of a step, or its number
abbrev pub whole_name : Chart → ℕ → List ℕ
whole_name chart step = if is_named chart step then shown (name_of chart step) else codes "step " ++ decimal step

-- the same, cut if it is long
abbrev pub short_name : Chart → ℕ → List ℕ
short_name chart step = if is_named chart step then cut most_name (name_of chart step) else codes "step " ++ decimal step

-- what a browser shows under the mouse: the number and the whole name, and the windows of the start and of the end
abbrev pub title_text : Chart → ℕ → List ℕ
title_text chart step = codes "<g><title>" ++ decimal step ++ codes " " ++ whole_name chart step ++ codes ": starts " ++ window_text chart (start_of step)
    ++ codes ", ends " ++ window_text chart (end_of step) ++ codes "</title>"

-- the line on which the words of a step stand
abbrev pub words_base : Chart → ℕ → ℕ
words_base chart step = top_of chart step + words_below

-- the number and the name
abbrev pub label_text : Chart → ℕ → List ℕ
label_text chart step = codes "<text class='s e' x='24' y='" ++ decimal (words_base chart step) ++ codes "'>" ++ decimal step ++ codes "</text><text class='n' x='32' y='" ++ decimal (words_base chart step) ++ codes "'>" ++ short_name chart step ++ codes "</text>\n"

-- the solid part of a step: done, running, one that cannot move, one that a site owns, another
abbrev pub class_of : Chart → ℕ → List ℕ
class_of chart step =
    if is_step_done chart step then codes "d"
    else (if is_running chart step then codes "r"
    else (if is_fixed chart step then codes "f"
    else (if step_owner chart step == 0 then codes "a"
    else codes "a o" ++ decimal (step_owner chart step % 6))))

-- a bar that begins at a place, and is so wide
abbrev pub bar_text : List ℕ → ℕ → ℕ → ℕ → List ℕ
bar_text class left middle width = codes "<path class='" ++ class ++ codes "' d='M" ++ decimal left ++ codes " " ++ decimal middle ++ codes "h" ++ decimal width ++ codes "'/>"

-- a bar that fades
abbrev pub fading_text : ℕ → ℕ → ℕ → List ℕ
fading_text left top width = codes "<rect fill='url(#j)' x='" ++ decimal left ++ codes "' y='" ++ decimal top ++ codes "' width='" ++ decimal width ++ codes "' height='6'/>"

-- the mark of a latest start
abbrev pub mark_text : List ℕ → ℕ → ℕ → List ℕ
mark_text class left top = codes "<path class='" ++ class ++ codes "' d='M" ++ decimal left ++ codes " " ++ decimal top ++ codes "v16'/>"

abbrev pub middle_of : Chart → ℕ → ℕ
middle_of chart step = top_of chart step + middle_below

-- from the soonest start to the soonest end
abbrev pub solid_text : Chart → ℕ → List ℕ
solid_text chart step =
    bar_text (class_of chart step) (place_of chart (soonest chart (start_of step))) (middle_of chart step)
    (max least_width (place_of chart (soonest chart (end_of step)) - place_of chart (soonest chart (start_of step))))

-- from the soonest end to the latest, with the latest time after it
abbrev pub lasting_class : Chart → ℕ → List ℕ
lasting_class chart step = if is_due chart step then codes "l" else codes "p"

abbrev pub lasting_text : Chart → ℕ → List ℕ
lasting_text chart step =
    if may_last chart step
    then bar_text (lasting_class chart step) (place_of chart (soonest chart (end_of step))) (middle_of chart step)
    (place_of chart (latest chart (end_of step)) - place_of chart (soonest chart (end_of step)))
    else []

-- where the time after the bars stands
abbrev pub behind : Chart → ℕ → ℕ
behind chart step =
    max (place_of chart (latest chart (end_of step))) (place_of chart (soonest chart (start_of step)) + least_width) + 5

abbrev pub time_class : Chart → ℕ → List ℕ
time_class chart step = if is_due chart step then codes "s w" else codes "s"

abbrev pub time_text : Chart → ℕ → List ℕ
time_text chart step = codes "<text class='" ++ time_class chart step ++ codes "' x='" ++ decimal (behind chart step) ++ codes "' y='" ++ decimal (words_base chart step) ++ codes "'>"
    ++ printed (window_at chart.windows (end_of step)).1 ++ codes "</text>"

-- from the soonest end to the end of the axis
abbrev pub open_bar_text : Chart → ℕ → List ℕ
open_bar_text chart step = fading_text (place_of chart (soonest chart (end_of step))) (middle_of chart step - 3)
    (line_left + line_width - place_of chart (soonest chart (end_of step)))

-- what stands after the solid part
abbrev pub rest_text : Chart → ℕ → List ℕ
rest_text chart step = if is_open chart (end_of step) then open_bar_text chart step else lasting_text chart step ++ time_text chart step

-- the mark at the latest start; it has the colour of the present where the step is due
abbrev pub mark_class : Chart → ℕ → List ℕ
mark_class chart step = if is_due chart step then codes "c" else codes "k"

abbrev pub latest_mark : Chart → ℕ → List ℕ
latest_mark chart step = if may_wait chart step then mark_text (mark_class chart step) (place_of chart (latest chart (start_of step))) (top_of chart step + 4) else []

-- the number of the site that owns the step, at the right edge
abbrev pub owner_text : Chart → ℕ → List ℕ
owner_text chart step =
    if step_owner chart step == 0 then []
    else codes "<text class='s e' x='992' y='" ++ decimal (words_base chart step) ++ codes "'>" ++ decimal (step_owner chart step) ++ codes "</text>"

-- down or up from one place to another, with a tip
abbrev pub arrow_along : ℕ → ℕ → ℕ → ℕ → List ℕ → List ℕ
arrow_along left begin right end tip = codes "<path class='v' d='M" ++ decimal left ++ codes " " ++ decimal begin ++ codes "V" ++ decimal end ++ codes "H" ++ decimal right ++ tip ++ codes "'/>"

-- the arrow from an event to the start of a step: from below the row of the event to above that of the step, or from above it to below that
abbrev pub arrow_path : Chart → ℕ → ℕ → List ℕ
arrow_path chart event step =
    let left = place_of chart (soonest chart event) in
    let right = place_of chart (soonest chart (start_of step)) in
    let top = top_of chart (step_of event) in
    let other = top_of chart step in
    if nat_lt top other then arrow_along left (top + 18) right other (codes "v6") else arrow_along left (top + 6) right (other + row_height) (codes "v-6")

-- the arrow to the start of a step, if an event holds it
abbrev pub arrow_from : Chart → Option ℕ → ℕ → List ℕ
arrow_from chart None step = []
arrow_from chart (Some event) step = arrow_path chart event step

-- the arrow to the start of a step that has not begun, from the event that holds it
abbrev pub arrow_text : Chart → ℕ → List ℕ
arrow_text chart step = if chart.look.arrows && not (is_begun chart step) then arrow_from chart (holder_of chart step) step else []

-- the row of a step
abbrev pub row_text : Chart → ℕ → List ℕ
row_text chart step = title_text chart step ++ label_text chart step ++ solid_text chart step ++ rest_text chart step ++ latest_mark chart step
    ++ owner_text chart step ++ arrow_text chart step ++ codes "</g>\n"
