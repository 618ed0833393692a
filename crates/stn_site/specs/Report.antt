use Rattle.std.specs.{Prelude.{◌≡◌, ℕ, ℤ, zero, suc, ◌+◌, Bool, ◌==◌, ◌&&◌, ◌⊎◌, List, [], ◌++◌, length, map, codes}, List.{list_any, flat_map, range_with_len}}
use Rattle.stn_net.specs.{Difference.Difference, Schedule.HasSchedule, Windows.Window.IsWindow}
use Rattle.stn_lift.specs.PlanSource.{PlanSource, steps_of, events_of, base_bounds}
use Rattle.stn_records.specs.{declared.record.Record.Record, Record.is_done_mark as marks_done, Content.{Content, live_of, replaced_count}, Id.SiteCounter}
use Rattle.stn_conflict.specs.{declared.links.Link.Link, Arcs.{weight_of, IsNegativeCycle}, Named.IsNamedCycle}
use Rattle.stn_site.specs.{Bounds.{all_bounds, live_bounds}, Names.live_ids, Lines.{line, plan_line, records_line, window_line, conflict_line, link_line}}

-- a report has at most so many bytes
abbrev pub most_report : ℕ
most_report = 65536

-- one of the records says that the event is done
abbrev pub says_done : List (SiteCounter × Record) → ℕ → Bool
says_done records event = list_any (λ entry. marks_done entry.1.mark && (entry.1.bound.to == event)) records

-- some live record says that the event is done
abbrev pub is_done : Content → ℕ → Bool
is_done state = says_done (live_of state)

-- for each event of the plan, the origin first, whether some live record says that it is done
abbrev pub done_events : PlanSource → Content → List Bool
done_events source state = map (is_done state) (range_with_len 0 (events_of source + 1))

-- the lines of the first events, each with exactly the times that the event takes in some schedule
abbrev pub IsWindowLines : List Difference → (ℕ → Bool) → ℕ → List ℕ → Type 0
IsWindowLines bounds done zero text = text ≡ []
IsWindowLines bounds done (suc event) text =
    (before : List ℕ) × (earliest : ℤ) × (latest : ℤ) × IsWindowLines bounds done event before
    × IsWindow bounds (suc event) earliest latest
    × (text ≡ before ++ window_line (suc event) earliest latest (done (suc event)))

-- all bounds have a schedule, and the text has the line `ok` and one for each event's window
pub record IsWindowsPart (source : PlanSource) (state : Content) (text : List ℕ) : Type 0 where
  pub possible : HasSchedule (all_bounds source state)
  pub lines : List ℕ
  pub windows : IsWindowLines (all_bounds source state) (is_done state) (events_of source) lines
  pub whole : text ≡ line (codes "ok") ++ lines

-- the text has the sum of the named cycle of all bounds, which is a negative cycle, and then the line of each of its links
pub record IsConflictPart (source : PlanSource) (state : Content) (text : List ℕ) : Type 0 where
  pub links : List Link
  pub named : IsNamedCycle (all_bounds source state) links
  pub negative : IsNegativeCycle (all_bounds source state) links
  pub whole : text ≡ conflict_line (weight_of (all_bounds source state) links)
      ++ flat_map (link_line (base_bounds source) (live_ids state) (live_bounds state)) links

-- `plan ..` and `records ..`
abbrev pub heading : PlanSource → Content → List ℕ
heading source state =
    plan_line (steps_of source) (events_of source) ++ records_line (length (live_of state)) (replaced_count state)

-- the text is the report of a plan and a state: the heading, and then the windows where all bounds have a schedule, the
-- named cycle where they have none
pub record IsReport (source : PlanSource) (state : Content) (text : List ℕ) : Type 0 where
  pub rest : List ℕ
  pub part : IsWindowsPart source state rest ⊎ IsConflictPart source state rest
  pub whole : text ≡ heading source state ++ rest
