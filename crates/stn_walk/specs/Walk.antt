-- The picture of a conflict: a walk along its links. The first event stands at 0, and each link moves on by what it allows, so that each
-- row begins at the latest time that the rows above leave its event.
use Rattle.std.specs.{Prelude.{ℕ, ℤ, pos, neg_ℤ, ◌+◌, ◌-◌, ◌*◌, ◌%◌, ◌+ℤ◌, ◌==◌, ◌&&◌, nat_lt, Bool, max, List, [], ◌∷◌, ◌++◌, length, take, map, slice_index_or, unsigned_abs, if◌then◌else◌, codes, decimal}, List.{flat_map, range_with_len}, Int.{is_negative, abs_diff}}
use Rattle.stn_time.specs.Text.{printed}
use Rattle.stn_net.specs.{Difference.Difference, Event.event_text}
use Rattle.stn_lift.specs.BaseBounds.{step_of}
use Rattle.stn_records.specs.Id.{SiteCounter, same_ids}
use Rattle.stn_conflict.specs.{declared.links.{Link.Link, Side.{Side, TheVariants.{Upper, Lower}}}, Arcs.{bound_at, arc_of, weight_of}}
use Rattle.stn_site.specs.{declared.names.BoundName.{BoundName, TheVariants.{Plan, Record}}, Names.{name_in, name_text}, Lines.side_text}
use Rattle.stn_repairs.specs.declared.repair.Repair.{Repair}
use Rattle.stn_drawing.specs.{Escape.cut, Sheet.{open_text, paper_text, heading_text}, Ticks.{Axis, axis_reaching, axis_text, place_on}}
use Rattle.stn_walk.specs.Style.{walk_style}

-- what is drawn of a conflict: the title, the names of the steps, the plan's bounds, the ids and the bounds of the live records, the links,
-- the sums of the links above each row, the repairs, and the axis
pub record Walk : Type 0 where
  pub title : List ℕ
  pub names : List (List ℕ)
  pub base : List Difference
  pub ids : List SiteCounter
  pub others : List Difference
  pub links : List Link
  pub sums : List ℤ
  pub repairs : List Repair
  pub axis : Axis

abbrev pub bounds_in : Walk → List Difference
bounds_in walk = walk.base ++ walk.others

-- the sum of the first links
abbrev pub sum_of : List Difference → List Link → ℕ → ℤ
sum_of bounds links count = weight_of bounds (take count links)

-- those of none of them, of the first, and so on, to that of all
abbrev pub sums_of : List Difference → List Link → List ℤ
sums_of bounds links = map (sum_of bounds links) (range_with_len 0 (length links + 1))

-- the sum of the links above a row, in milliseconds
abbrev pub sum_at : Walk → ℕ → ℤ
sum_at walk row = slice_index_or walk.sums row (pos 0)

-- how far a time lies before 0, and after it
abbrev pub early : ℤ → ℕ
early time = if is_negative time then unsigned_abs time else 0

abbrev pub late : ℤ → ℕ
late time = if is_negative time then 0 else unsigned_abs time

-- the greatest of what is said of the times
abbrev pub greatest : (ℤ → ℕ) → List ℤ → ℕ
greatest far [] = 0
greatest far (time ∷ times) = max (far time) (greatest far times)

-- where the axis begins, and how wide it is
abbrev pub axis_left : ℕ
axis_left = 500

abbrev pub axis_width : ℕ
axis_width = 440

-- the top of a row; rows are counted from 0
abbrev pub walk_top : ℕ → ℕ
walk_top row = 54 + 34 * row

-- the axis for these times, down to below the rows of so many links
abbrev pub axis_for : List ℤ → ℕ → Axis
axis_for times links = axis_reaching axis_left axis_width (greatest early times) (greatest late times) (walk_top (links + 1))

-- the walk along links, with these names, ids and repairs
abbrev pub walk_of : List ℕ → List (List ℕ) → List Difference → List SiteCounter → List Difference → List Link → List Repair → Walk
walk_of title names base ids others links repairs = record {
  title = title;
  names = names;
  base = base;
  ids = ids;
  others = others;
  links = links;
  sums = sums_of (base ++ others) links;
  repairs = repairs;
  axis = axis_for (sums_of (base ++ others) links) (length links);
}

-- how far after the beginning of the axis a time stands
abbrev pub along : Walk → ℤ → ℕ
along walk time = unsigned_abs (time +ℤ pos (walk.axis.gap * walk.axis.before))

-- where a time stands
abbrev pub walk_place : Walk → ℤ → ℕ
walk_place walk time = place_on walk.axis (along walk time)

abbrev pub walk_height : ℕ → ℕ
walk_height links = walk_top (links + 1) + 36

-- the link of a row
abbrev pub row_link : Walk → ℕ → Link
row_link walk row = slice_index_or walk.links row (record { place = 0; side = Upper })

abbrev pub walk_bound : Walk → ℕ → Difference
walk_bound walk row = bound_at (bounds_in walk) (row_link walk row).place

abbrev pub linked_name : Walk → ℕ → BoundName
linked_name walk row = name_in walk.base walk.ids (row_link walk row).place

-- `<name> upper` or `<name> lower`
abbrev pub link_name : Walk → ℕ → List ℕ
link_name walk row = name_text (linked_name walk row) ++ codes " " ++ side_text (row_link walk row).side

-- the limit that a side asks for
abbrev pub limit_words : Side → Difference → List ℕ
limit_words Upper bound = codes " at most " ++ printed bound.hi
limit_words Lower bound = codes " at least " ++ printed bound.lo

-- the bound says how long a step lasts
abbrev pub is_duration : Difference → Bool
is_duration bound = (bound.to == bound.from + 1) && (bound.to % 2 == 0)

-- a step by its number, and by its name, cut to so many characters, if it has one
abbrev pub step_words : Walk → ℕ → ℕ → List ℕ
step_words walk most step =
    if nat_lt (step - 1) (length walk.names) then decimal step ++ codes " " ++ cut most (slice_index_or walk.names (step - 1) []) else codes "step " ++ decimal step

-- what a link asks: of a step how long it lasts, and else how long after the one event the other comes
abbrev pub asked_text : Walk → Side → Difference → List ℕ
asked_text walk side bound =
    if is_duration bound then step_words walk 24 (step_of bound.to) ++ limit_words side bound
    else event_text bound.to ++ limit_words side bound ++ codes " after " ++ event_text bound.from

-- which step an event starts or ends: a line of what a browser shows
abbrev pub event_words : Walk → ℕ → List ℕ
event_words walk event = if event == 0 then [] else event_text event ++ codes ": " ++ step_words walk 200 (step_of event) ++ codes "\n"

-- the steps of a row by their names, if they have any
abbrev pub walk_title : Walk → ℕ → List ℕ
walk_title walk row =
    if length walk.names == 0 then []
    else codes "<title>" ++ event_words walk (walk_bound walk row).from ++ event_words walk (walk_bound walk row).to ++ codes "</title>"

abbrev pub name_opening : ℕ → List ℕ
name_opening base = codes "<text class='h' x='8' y='" ++ decimal base ++ codes "'>"

abbrev pub words_opening : ℕ → List ℕ
words_opening base = codes "</text><text class='n' x='124' y='" ++ decimal base ++ codes "'>"

-- the name of the link, and in words what it asks
abbrev pub walk_words : Walk → ℕ → List ℕ
walk_words walk row = name_opening (walk_top row + 15) ++ link_name walk row
    ++ words_opening (walk_top row + 15) ++ asked_text walk (row_link walk row).side (walk_bound walk row) ++ codes "</text>\n"

-- what the others leave: the range of a repair from below or from above
abbrev pub leaves_text : Side → Repair → List ℕ
leaves_text Upper repair = printed repair.least ++ codes " or more"
leaves_text Lower repair = printed repair.greatest ++ codes " or less"

-- the record alone mends the conflict
abbrev pub mends_text : ℕ → Side → SiteCounter → Repair → List ℕ
mends_text row side id repair =
    if same_ids repair.id id
    then codes "<text class='j' x='124' y='" ++ decimal (walk_top row + 29) ++ codes "'>alone mends it: " ++ leaves_text side repair ++ codes "</text>\n"
    else []

abbrev pub mending_text : ℕ → Side → List Repair → BoundName → List ℕ
mending_text row side repairs (Plan number) = []
mending_text row side repairs (Record id) = flat_map (mends_text row side id) repairs

-- an arrow, or a dot if it is shorter than its tip
abbrev pub walk_arrow : ℕ → ℕ → ℕ → List ℕ
walk_arrow left right middle =
    if nat_lt (abs_diff left right) 9 then codes "<circle class='x' cx='" ++ decimal left ++ codes "' cy='" ++ decimal middle ++ codes "' r='3'/>"
    else codes "<path d='M" ++ decimal left ++ codes " " ++ decimal middle ++ codes "H" ++ decimal right ++ codes "'/>"

-- the place of the sum of the links above a row
abbrev pub left_of : Walk → ℕ → ℕ
left_of walk row = walk_place walk (sum_at walk row)

-- the event at which a link begins, on the side that the link leaves
abbrev pub label_opening : Walk → ℕ → List ℕ
label_opening walk row =
    if nat_lt (left_of walk (row + 1)) (left_of walk row) then codes "<text x='" ++ decimal (left_of walk row + 8) ++ codes "' y='" ++ decimal (walk_top row + 21) ++ codes "'>"
    else codes "<text class='e' x='" ++ decimal (left_of walk row - 8) ++ codes "' y='" ++ decimal (walk_top row + 21) ++ codes "'>"

abbrev pub row_mending : Walk → ℕ → List ℕ
row_mending walk row = mending_text row (row_link walk row).side walk.repairs (linked_name walk row)

abbrev pub row_label : Walk → ℕ → List ℕ
row_label walk row = label_opening walk row ++ event_text (arc_of (bounds_in walk) (row_link walk row)).from ++ codes "</text>"

abbrev pub row_arrow : Walk → ℕ → List ℕ
row_arrow walk row = walk_arrow (left_of walk row) (left_of walk (row + 1)) (walk_top row + 17)

-- down to the next row
abbrev pub row_drop : Walk → ℕ → List ℕ
row_drop walk row = codes "M" ++ decimal (left_of walk (row + 1)) ++ codes " " ++ decimal (walk_top row + 21) ++ codes "v26"

-- the row of a link: it begins at the sum of the links above, and ends at the sum with it
abbrev pub walk_row : Walk → ℕ → List ℕ
walk_row walk row = codes "<g>" ++ walk_title walk row ++ walk_words walk row ++ row_mending walk row ++ row_label walk row ++ row_arrow walk row ++ codes "</g>\n"

-- the lines from each row down to the next one
abbrev pub walk_drops : Walk → List ℕ
walk_drops walk = codes "<path class='o' d='" ++ flat_map (row_drop walk) (range_with_len 0 (length walk.links)) ++ codes "'/>\n"

-- the event at which the walk begins
abbrev pub first_event : Walk → ℕ
first_event walk = (arc_of (bounds_in walk) (row_link walk 0)).from

-- the sum of all links: so long before itself the first event would come
abbrev pub last_sum : Walk → ℤ
last_sum walk = sum_at walk (length walk.links)

-- where the last row stands: its top, and the place of that sum
abbrev pub last_top : Walk → ℕ
last_top walk = walk_top (length walk.links)

abbrev pub last_place : Walk → ℕ
last_place walk = left_of walk (length walk.links)

abbrev pub walk_summary : Walk → List ℕ
walk_summary walk = codes "<text class='s e' x='992' y='20'>" ++ decimal (length walk.links) ++ codes " bounds contradict each other by " ++ printed (neg_ℤ (last_sum walk)) ++ codes " s</text>\n"

-- the first event, and that it would come before itself
abbrev pub before_itself : Walk → List ℕ
before_itself walk = codes "<text class='h w' x='8' y='" ++ decimal (last_top walk + 15) ++ codes "'>" ++ event_text (first_event walk) ++ codes " would be "
    ++ printed (neg_ℤ (last_sum walk)) ++ codes " before itself</text>"

-- the span from the sum of all links to 0
abbrev pub span_text : Walk → List ℕ
span_text walk = codes "<path class='c' d='M" ++ decimal (last_place walk) ++ codes " " ++ decimal (last_top walk + 10) ++ codes "v14M" ++ decimal (walk_place walk (pos 0)) ++ codes " "
    ++ decimal (last_top walk + 10) ++ codes "v14M" ++ decimal (last_place walk) ++ codes " " ++ decimal (last_top walk + 17) ++ codes "H" ++ decimal (walk_place walk (pos 0)) ++ codes "'/>"

abbrev pub again_text : Walk → List ℕ
again_text walk = codes "<text class='e' x='" ++ decimal (last_place walk - 8) ++ codes "' y='" ++ decimal (last_top walk + 21) ++ codes "'>" ++ event_text (first_event walk) ++ codes "</text>\n"

abbrev pub walk_head : Walk → List ℕ
walk_head walk = open_text walk.title (walk_height (length walk.links)) ++ walk_style
    ++ paper_text (walk_height (length walk.links)) (walk_top 1) (walk_top (length walk.links + 1)) ++ heading_text walk.title ++ walk_summary walk

-- the last row: the first event again, before itself
abbrev pub last_row : Walk → List ℕ
last_row walk = before_itself walk ++ span_text walk ++ again_text walk

-- what the rows show
abbrev pub walk_foot : Walk → List ℕ
walk_foot walk = codes "<text class='s' x='8' y='" ++ decimal (walk_top (length walk.links + 1) + 24) ++ codes "'>From row to row: the latest time of the next event, where "
    ++ event_text (first_event walk) ++ codes " is at 0.</text>\n"

-- the picture of a conflict
abbrev pub walk_text : Walk → List ℕ
walk_text walk = walk_head walk ++ axis_text walk.axis ++ walk_drops walk ++ flat_map (walk_row walk) (range_with_len 0 (length walk.links)) ++ last_row walk ++ walk_foot walk ++ codes "</svg>\n"
