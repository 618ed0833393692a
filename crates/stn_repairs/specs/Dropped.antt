-- The records to drop, so that the rest has a schedule.
use Rattle.std.specs.{Prelude.{◌≡◌, ◌⊎◌, List, [], ◌∷◌, ◌++◌, not, filter, map}, Set.is_member}
use Rattle.stn_net.specs.{Difference.Difference, Schedule.HasSchedule}
use Rattle.stn_records.specs.{Id.{SiteCounter, same_ids}, Record.same_marks, declared.record.{Mark.{Mark, TheVariants.{Plain, Done}}, Record.Record}}
use Rattle.stn_site.specs.Bounds.{bounds_of}

-- the records with the mark, in their order
abbrev pub marked : Mark → List (SiteCounter × Record) → List (SiteCounter × Record)
marked mark records = filter (λ entry. same_marks entry.1.mark mark) records

-- the Done records, and then the others
abbrev pub facts_first : List (SiteCounter × Record) → List (SiteCounter × Record)
facts_first records = marked Done records ++ marked Plain records

-- a record is kept where the bounds that are kept so far have a schedule with it; the ids of those that are not, in the records' order
abbrev pub AreRefused : List Difference → List (SiteCounter × Record) → List SiteCounter → Type 0
AreRefused kept [] refused = refused ≡ []
AreRefused kept (entry ∷ rest) refused =
    (HasSchedule (kept ++ entry.1.bound ∷ []) × AreRefused (kept ++ entry.1.bound ∷ []) rest refused)
    ⊎ (¬ HasSchedule (kept ++ entry.1.bound ∷ []) × (later : List SiteCounter) × AreRefused kept rest later × (refused ≡ entry.0 ∷ later))

-- the ids of the live records that are not kept, in order of id. The plan's bounds, which have a schedule, are all kept; then the
-- records that say when an event took place have their turn, and then the others
pub record AreDropped (base : List Difference) (live : List (SiteCounter × Record)) (ids : List SiteCounter) : Type 0 where
  pub refused : List SiteCounter
  pub in_turn : AreRefused base (facts_first live) refused
  pub in_order : ids ≡ filter (λ id. is_member same_ids refused id) (map (λ entry. entry.0) live)

-- the plan's bounds, and those of the live records that are not dropped
abbrev pub kept_bounds : List Difference → List (SiteCounter × Record) → List SiteCounter → List Difference
kept_bounds base live ids = base ++ bounds_of (filter (λ entry. not (is_member same_ids ids entry.0)) live)
