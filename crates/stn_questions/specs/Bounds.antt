-- What `bounds` prints.
use Rattle.std.specs.{Prelude.{ℕ, ℤ, neg_ℤ, List, ◌++◌, length, codes, if◌then◌else◌}, List.{flat_map, range_with_len}, Ordering.int_eq}
use Rattle.stn_time.specs.{Time.horizon, Text.printed}
use Rattle.stn_net.specs.{Difference.Difference, Event.event_text}
use Rattle.stn_lift.specs.PlanSource.{PlanSource, base_bounds}
use Rattle.stn_records.specs.{Id.SiteCounter, Content.Content}
use Rattle.stn_conflict.specs.Arcs.{bound_at}
use Rattle.stn_site.specs.{declared.names.BoundName.BoundName, Bounds.{all_bounds, live_bounds}, Lines.line, Names.{live_ids, name_in, name_text}}

-- the lower side of a bound: `*` where it is open, that is, at the lower horizon; else its time
abbrev pub lower_text : ℤ → List ℕ
lower_text lo = if int_eq lo (neg_ℤ horizon) then codes "*" else printed lo

-- the upper side: `*` where it is open, at the upper horizon
abbrev pub upper_text : ℤ → List ℕ
upper_text hi = if int_eq hi horizon then codes "*" else printed hi

-- `<from> <to> <side> <side>`, as an addition reads it
abbrev pub bound_text : Difference → List ℕ
bound_text bound = event_text bound.from ++ codes " " ++ event_text bound.to ++ codes " " ++ lower_text bound.lo ++ codes " " ++ upper_text bound.hi

-- `<name> <from> <to> <side> <side>`
abbrev pub named_line : BoundName → Difference → List ℕ
named_line name bound = line (name_text name ++ codes " " ++ bound_text bound)

-- the line of the bound at a place of the plan's bounds followed by the others, whose ids these are, with its name in reports
abbrev pub listed_line : List Difference → List SiteCounter → List Difference → ℕ → List ℕ
listed_line base ids others place = named_line (name_in base ids place) (bound_at (base ++ others) place)

-- a line for each of all bounds, in their order
abbrev pub bounds_text : PlanSource → Content → List ℕ
bounds_text source state =
    flat_map (listed_line (base_bounds source) (live_ids state) (live_bounds state)) (range_with_len 0 (length (all_bounds source state)))
