-- The records without which the others have a schedule.
use Rattle.std.specs.Prelude.{◌≡◌, ◌⊎◌, List, [], ◌∷◌, ◌++◌, not, filter}
use Rattle.stn_net.specs.{Difference.Difference, Schedule.HasSchedule, Ranges.IsRange}
use Rattle.stn_records.specs.{Id.{SiteCounter, same_ids}, declared.record.Record.Record}
use Rattle.stn_site.specs.Bounds.{bounds_of}
use Rattle.stn_repairs.specs.declared.repair.Repair.{Repair}

-- the records but that of the id
abbrev pub without : List (SiteCounter × Record) → SiteCounter → List (SiteCounter × Record)
without records id = filter (λ entry. not (same_ids entry.0 id)) records

-- the others of a record: the bounds of the plan, and those of all live records but this one
abbrev pub others : List Difference → List (SiteCounter × Record) → SiteCounter → List Difference
others base live id = base ++ bounds_of (without live id)

-- the others have a schedule, and leave the events of the record's bound this range
pub record IsRepair (bounds : List Difference) (id : SiteCounter) (bound : Difference) (repair : Repair) : Type 0 where
  pub possible : HasSchedule bounds
  pub of_record : repair.id ≡ id
  pub from : repair.from ≡ bound.from
  pub to : repair.to ≡ bound.to
  pub range : IsRange bounds bound.from bound.to repair.least repair.greatest

-- a repair by each of these live records without which the others have a schedule, in the records' order, and no other
abbrev pub AreRepairs : List Difference → List (SiteCounter × Record) → List (SiteCounter × Record) → List Repair → Type 0
AreRepairs base live [] repairs = repairs ≡ []
AreRepairs base live (entry ∷ rest) repairs =
    (¬ HasSchedule (others base live entry.0) × AreRepairs base live rest repairs)
    ⊎ ((first : Repair) × (later : List Repair) × IsRepair (others base live entry.0) entry.0 entry.1.bound first
    × AreRepairs base live rest later × (repairs ≡ first ∷ later))
