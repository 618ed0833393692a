use Rattle.std.specs.Prelude.{ℕ, ℤ, Bool, List, [], ◌∷◌, ◌++◌, codes, decimal, if◌then◌else◌}
use Rattle.stn_time.specs.Text.{printed}
use Rattle.stn_net.specs.{Difference.Difference, Event.event_text}
use Rattle.stn_records.specs.Id.{SiteCounter}
use Rattle.stn_conflict.specs.{declared.links.{Link.Link, Side.{Side, TheVariants.{Upper, Lower}}}, Arcs.bound_at}
use Rattle.stn_site.specs.Names.{name_in, name_text}

-- the text and a line feed
abbrev pub line : List ℕ → List ℕ
line text = text ++ 10 ∷ []

-- `plan <steps> steps <events> events`
abbrev pub plan_line : ℕ → ℕ → List ℕ
plan_line steps events = line (codes "plan " ++ decimal steps ++ codes " steps " ++ decimal events ++ codes " events")

-- `records <live> live <withdrawn> withdrawn`
abbrev pub records_line : ℕ → ℕ → List ℕ
records_line live withdrawn = line (codes "records " ++ decimal live ++ codes " live " ++ decimal withdrawn ++ codes " withdrawn")

-- ` done`, where it is so
abbrev pub done_text : Bool → List ℕ
done_text done = if done then codes " done" else []

-- `<earliest> <latest>`
abbrev pub times_text : ℤ → ℤ → List ℕ
times_text earliest latest = printed earliest ++ codes " " ++ printed latest

-- `<event> <earliest> <latest>`, and ` done` where the event is done
abbrev pub window_line : ℕ → ℤ → ℤ → Bool → List ℕ
window_line event earliest latest done = line (event_text event ++ codes " " ++ times_text earliest latest ++ done_text done)

-- `<from> <to> <least> <greatest>`
abbrev pub range_line : ℕ → ℕ → ℤ → ℤ → List ℕ
range_line from to least greatest = line (event_text from ++ codes " " ++ event_text to ++ codes " " ++ times_text least greatest)

-- `conflict <sum>`
abbrev pub conflict_line : ℤ → List ℕ
conflict_line sum = line (codes "conflict " ++ printed sum)

abbrev pub side_text : Side → List ℕ
side_text Upper = codes "upper"
side_text Lower = codes "lower"

-- the side of the bound itself
abbrev pub side_limit : Difference → Side → ℤ
side_limit bound Upper = bound.hi
side_limit bound Lower = bound.lo

-- `<from> <to> <limit>`: the bound's own events, and the side that is named
abbrev pub limit_text : Difference → Side → List ℕ
limit_text bound side = event_text bound.from ++ codes " " ++ event_text bound.to ++ codes " " ++ printed (side_limit bound side)

-- `<name> <upper|lower> <from> <to> <limit>`
abbrev pub bound_line : List ℕ → Side → Difference → List ℕ
bound_line name side bound = line (name ++ codes " " ++ side_text side ++ codes " " ++ limit_text bound side)

-- the line of a link, whose place is one of the plan's bounds followed by the others
abbrev pub link_line : List Difference → List SiteCounter → List Difference → Link → List ℕ
link_line base ids others link = bound_line (name_text (name_in base ids link.place)) link.side (bound_at (base ++ others) link.place)
