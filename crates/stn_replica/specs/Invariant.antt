-- For proofs alone: no public clause cites these words.
use Rattle.std.specs.Prelude.{◌≡◌, ◌≤◌, Bool, true, false, List, option_map, unwrap_or}
use Rattle.stn_net.specs.{Difference.Difference, Schedule.HasSchedule, Matrix.{Table.Table, Tightest.IsExact}}
use Rattle.stn_lift.specs.PlanSource.{PlanSource, base_bounds, events_of}
use Rattle.stn_records.specs.Content.{Content, is_live}
use Rattle.stn_site.specs.{Bounds.{all_bounds, RecordsName}, Change.stopped, declared.change.Change.Change}

-- the bounds have a schedule, and the table is exact for them; or they have none
abbrev pub IsSettled : List Difference → Table → Bool → Type 0
IsSettled bounds table true = IsExact bounds table
IsSettled bounds table false = ¬ HasSchedule bounds

-- the records are about the plan's events, the opening table is exact for the plan's own bounds, and the current one
-- for all bounds where these have a schedule
pub record IsSoundReplica (source : PlanSource) (state : Content) (opening current : Table) (possible : Bool) : Type 0 where
  pub named : RecordsName (events_of source) state
  pub opening_events : opening.events ≡ events_of source
  pub current_events : current.events ≡ events_of source
  pub opening_exact : IsExact (base_bounds source) opening
  pub settled : IsSettled (all_bounds source state) current possible
  pub counted : current.steps ≤ 18446744073709551615

-- the change takes the place of a live record, or withdraws one
abbrev pub stops_live : Change → Content → Bool
stops_live asked state = unwrap_or (option_map (is_live state) (stopped asked)) false
