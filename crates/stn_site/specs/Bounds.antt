use Rattle.std.specs.{Prelude.{ℕ, ℤ, List, ◌++◌, map, All}, FinMap.entries}
use Rattle.stn_net.specs.{Difference.{Difference, NamesEvents}, Schedule.NamesTimes}
use Rattle.stn_lift.specs.PlanSource.{PlanSource, base_bounds}
use Rattle.stn_records.specs.{Id.SiteCounter, declared.record.Record.Record, Content.{Content, live_of}}

-- the bounds of records
abbrev pub bounds_of : List (SiteCounter × Record) → List Difference
bounds_of records = map (λ entry. entry.1.bound) records

-- the bounds of the live records, in order of id
abbrev pub live_bounds : Content → List Difference
live_bounds state = bounds_of (live_of state)

-- the plan's own bounds, and then those of the live records
abbrev pub all_bounds : PlanSource → Content → List Difference
all_bounds source state = base_bounds source ++ live_bounds state

-- each record, live or not, names the origin or one of so many events
abbrev pub RecordsName : ℕ → Content → Type 0
RecordsName events state = All (λ entry. NamesEvents events entry.1.bound) (entries state.additions)

-- and names events that have a time
abbrev pub RecordsTimed : List ℤ → Content → Type 0
RecordsTimed times state = All (λ entry. NamesTimes times entry.1.bound) (entries state.additions)
