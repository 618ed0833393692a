-- What stands around the rows: the head, the axis, the present, the legend.
use Rattle.std.specs.{Prelude.{ℕ, ℤ, ◌+◌, ◌-◌, ◌==◌, List, [], ◌∷◌, ◌++◌, length, codes, decimal, if◌then◌else◌, Option, Some, None}, List.{flat_map, range_with_len}}
use Rattle.stn_time.specs.Text.{printed}
use Rattle.stn_net.specs.Event.{event_text}
use Rattle.stn_drawing.specs.{Sheet.{open_text, paper_text, heading_text}, Ticks.axis_text}
use Rattle.stn_chart.specs.{Chart.{Chart, moment_of}, Parts.{occurs, count_of, place_of}, Places.{row_top, height_of, legend_left, legend_apart}, Rows.{bar_text, fading_text, mark_text, row_text}, Style.{style_text, parts_text, sites_style}, declared.parts.Part.Part}
use Rattle.stn_chart.specs.declared.parts.Part.TheVariants as part

abbrev pub overdue_text : Option ℕ → List ℕ
overdue_text None = []
overdue_text (Some event) = codes ", <tspan class='w'>overdue " ++ event_text event ++ codes "</tspan>"

abbrev pub now_text : Option ℤ → List ℕ
now_text None = []
now_text (Some now) = codes ", now " ++ printed now

-- how many of so many steps are done, and how many run
abbrev pub counts_text : ℕ → ℕ → ℕ → List ℕ
counts_text done steps running =
    codes "<text class='s e' x='992' y='20'>" ++ decimal done ++ codes " of " ++ decimal steps ++ codes " steps done, " ++ decimal running ++ codes " running"

-- how many steps are done and running, which event is overdue, the present
abbrev pub summary_text : Chart → List ℕ
summary_text chart = counts_text (count_of chart part.Done) chart.steps (count_of chart part.Running) ++ overdue_text chart.overdue ++ now_text chart.look.present ++ codes "</text>\n"

abbrev pub sites_text : Chart → List ℕ
sites_text chart = if length chart.look.owned == 0 then [] else sites_style

-- the style sheets and what they name
abbrev pub chart_style : Chart → List ℕ
chart_style chart = style_text ++ sites_text chart ++ parts_text

abbrev pub chart_paper : Chart → List ℕ
chart_paper chart = paper_text (height_of chart.steps) (row_top 1) (row_top chart.steps)

-- the head of the picture of a plan
abbrev pub head_text : Chart → List ℕ
head_text chart = open_text chart.look.title (height_of chart.steps) ++ chart_style chart ++ chart_paper chart ++ heading_text chart.look.title ++ summary_text chart

-- the line of the present, from above the rows to below them
abbrev pub present_line : ℕ → ℕ → List ℕ
present_line left end = codes "<path class='c' d='M" ++ decimal left ++ codes " 48V" ++ decimal (end + 4) ++ codes "'/><text class='m w' x='" ++ decimal left
    ++ codes "' y='" ++ decimal (end + 16) ++ codes "'>now</text>\n"

abbrev pub present_text : Chart → Option ℤ → List ℕ
present_text chart None = []
present_text chart (Some now) = present_line (place_of chart (moment_of (Some now))) (row_top chart.steps)

-- the sample of a part that the legend explains, in a row that ends there
abbrev pub sample_text : Part → ℕ → ℕ → List ℕ
sample_text part.Soonest left base = bar_text (codes "a") left (base - 4) 18
sample_text part.Lasting left base = bar_text (codes "p") left (base - 4) 18
sample_text part.Latest left base = mark_text (codes "k") (left + 9) (base - 12)
sample_text part.Fixed left base = bar_text (codes "f") left (base - 4) 18
sample_text part.Done left base = bar_text (codes "d") left (base - 4) 18
sample_text part.Running left base = bar_text (codes "r") left (base - 4) 18
sample_text part.Due left base = bar_text (codes "l") left (base - 4) 18
sample_text part.Open left base = fading_text left (base - 7) 18

abbrev pub meaning_text : Part → List ℕ
meaning_text part.Soonest = codes "soonest"
meaning_text part.Lasting = codes "may last until"
meaning_text part.Latest = codes "latest start"
meaning_text part.Fixed = codes "cannot move"
meaning_text part.Done = codes "done"
meaning_text part.Running = codes "running"
meaning_text part.Due = codes "due soon"
meaning_text part.Open = codes "no latest time"

abbrev pub words_text : Part → ℕ → ℕ → List ℕ
words_text one left base = codes "<text class='s' x='" ++ decimal left ++ codes "' y='" ++ decimal base ++ codes "'>" ++ meaning_text one ++ codes "</text>\n"

-- the entry of a part that occurs, and where the next one begins
abbrev pub entry_at : Chart → ℕ → ℕ → Part → List ℕ
entry_at chart base left one = if occurs chart one then sample_text one left base ++ words_text one (left + 24) base else []

abbrev pub left_after : Chart → ℕ → Part → ℕ
left_after chart left one = if occurs chart one then left + legend_apart else left

-- the entries of those of the parts that occur: the first at a place, each further one to its right
abbrev pub entries_text : Chart → ℕ → ℕ → List Part → List ℕ
entries_text chart base left [] = []
entries_text chart base left (one ∷ rest) = entry_at chart base left one ++ entries_text chart base (left_after chart left one) rest

abbrev pub legend_base : ℕ → ℕ
legend_base steps = row_top steps + 44

abbrev pub parts : List Part
parts = part.Soonest ∷ part.Lasting ∷ part.Latest ∷ part.Fixed ∷ part.Done ∷ part.Running ∷ part.Due ∷ part.Open ∷ []

abbrev pub legend_text : Chart → List ℕ
legend_text chart = entries_text chart (legend_base chart.steps) legend_left parts

-- the picture of a plan
abbrev pub plan_text : Chart → List ℕ
plan_text chart = head_text chart ++ axis_text chart.axis ++ flat_map (row_text chart) (range_with_len 1 chart.steps) ++ present_text chart chart.look.present ++ legend_text chart ++ codes "</svg>\n"
