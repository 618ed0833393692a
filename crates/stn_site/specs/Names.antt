use Rattle.std.specs.{Prelude.{ℕ, ℤ, ◌+◌, ◌-◌, ◌-ℤ◌, nat_lt, int_le, Bool, not, ◌&&◌, List, ◌++◌, length, slice_index_or, position, find, if◌then◌else◌, codes, decimal, map, Option, option_map}, Option.option_or}
use Rattle.stn_net.specs.Difference.{Difference}
use Rattle.stn_lift.specs.PlanSource.{PlanSource, base_bounds}
use Rattle.stn_records.specs.{Id.{SiteCounter, id_text}, declared.record.Record.Record as RecordOf, Content.{Content, live_of}}
use Rattle.stn_site.specs.declared.names.BoundName.{BoundName, TheVariants.{Plan, Record}}

-- the ids of the live records, in order
abbrev pub live_ids : Content → List SiteCounter
live_ids state = map (λ entry. entry.0) (live_of state)

-- the id at a place of a list
abbrev pub id_at : List SiteCounter → ℕ → SiteCounter
id_at ids place = slice_index_or ids place (record { site = 0; counter = 0 })

-- the name of the bound at a place of a list of the plan's bounds, which are counted from 1, and then those of records, which
-- have their ids
abbrev pub name_in : List Difference → List SiteCounter → ℕ → BoundName
name_in base ids place = if nat_lt place (length base) then Plan (place + 1) else Record (id_at ids (place - length base))

-- the printed form of a name
abbrev pub name_text : BoundName → List ℕ
name_text (Plan number) = codes "plan." ++ decimal number
name_text (Record id) = id_text id

-- the times meet the bound
abbrev pub is_met : (ℕ → ℤ) → Difference → Bool
is_met time bound = int_le bound.lo (time bound.to -ℤ time bound.from) && int_le (time bound.to -ℤ time bound.from) bound.hi

-- the first live record whose bound the times break
abbrev pub broken_record : Content → (ℕ → ℤ) → Option (SiteCounter × RecordOf)
broken_record state time = find (λ entry. not (is_met time entry.1.bound)) (live_of state)

-- the name of the first of all bounds that the times break: one of the plan's, or that of a live record
unfoldable pub broken_bound : PlanSource → Content → (ℕ → ℤ) → Option BoundName
broken_bound source state time =
    option_or (option_map (λ place. Plan (place + 1)) (position (λ bound. not (is_met time bound)) (base_bounds source)))
    (option_map (λ entry. Record entry.0) (broken_record state time))
