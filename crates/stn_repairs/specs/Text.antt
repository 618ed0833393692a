-- What `repairs` prints.
use Rattle.std.specs.{Prelude.{◌≡◌, ◌⊎◌, ℕ, List, ◌++◌, codes}, List.flat_map}
use Rattle.stn_net.specs.{Difference.Difference, Schedule.HasSchedule}
use Rattle.stn_lift.specs.PlanSource.{PlanSource, base_bounds}
use Rattle.stn_records.specs.{Id.{SiteCounter, id_text}, declared.record.Record.Record, Content.{Content, live_of}}
use Rattle.stn_site.specs.{Bounds.bounds_of, Lines.{line, range_line}}
use Rattle.stn_repairs.specs.{declared.repair.Repair.Repair, Repairs.AreRepairs, Dropped.AreDropped}

-- `<id> <from> <to> <least> <greatest>`
abbrev pub repair_line : Repair → List ℕ
repair_line repair = id_text repair.id ++ codes " " ++ range_line repair.from repair.to repair.least repair.greatest

-- ` <id>`
abbrev pub listed_id : SiteCounter → List ℕ
listed_id id = codes " " ++ id_text id

-- `drop <id> ..`
abbrev pub drop_line : List SiteCounter → List ℕ
drop_line ids = line (codes "drop" ++ flat_map listed_id ids)

-- the plan's bounds and those of the live records have no schedule, and the text has the line of each repair, and then that of the
-- dropped records
pub record SaysRepairs (base : List Difference) (live : List (SiteCounter × Record)) (text : List ℕ) : Type 0 where
  pub conflict : ¬ HasSchedule (base ++ bounds_of live)
  pub repairs : List Repair
  pub are : AreRepairs base live live repairs
  pub dropped : List SiteCounter
  pub drop : AreDropped base live dropped
  pub whole : text ≡ flat_map repair_line repairs ++ drop_line dropped

-- `ok`, where they have a schedule; else the repairs
abbrev pub SaysWhatMends : List Difference → List (SiteCounter × Record) → List ℕ → Type 0
SaysWhatMends base live text = (HasSchedule (base ++ bounds_of live) × (text ≡ line (codes "ok"))) ⊎ SaysRepairs base live text

-- the text that `repairs` prints of a plan and a state
abbrev pub IsRepairsText : PlanSource → Content → List ℕ → Type 0
IsRepairsText source state text = SaysWhatMends (base_bounds source) (live_of state) text
