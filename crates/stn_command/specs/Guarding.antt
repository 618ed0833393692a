-- What is printed of a guard.
use Rattle.std.specs.{Prelude.{ℕ, List, codes, Option, Some, None}, List.flat_map}
use Rattle.stn_records.specs.Id.{SiteCounter}
use Rattle.stn_site.specs.Lines.{line}
use Rattle.stn_command.specs.{Change.made_text, declared.changes.Made.TheVariants.Added}

abbrev pub added_line : SiteCounter → List ℕ
added_line id = made_text (Added id)

-- a line for each record of a guard; `conflict`, where there is no guard
abbrev pub guard_text : Option (List SiteCounter) → List ℕ
guard_text (Some ids) = flat_map added_line ids
guard_text None = line (codes "conflict")
