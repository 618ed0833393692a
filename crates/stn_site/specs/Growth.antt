-- How the live records of a state change from one state to the next.
use Rattle.std.specs.{Prelude.{◌≡◌, Bool, true, not, ◌&&◌, List, filter, Some}, FinMap.{entries, get}}
use Rattle.stn_records.specs.{Id.SiteCounter, declared.record.Record.Record, Content.{Content, is_live}}

-- the record of the id is live in the new state, and was not in the old
abbrev pub is_risen : Content → Content → SiteCounter → Bool
is_risen old new id = is_live new id && not (is_live old id)

-- the records that have become live, in order of id
abbrev pub risen : Content → Content → List (SiteCounter × Record)
risen old new = filter (λ entry. is_risen old new entry.0) (entries new.additions)

-- each record of the old state is one of the new
abbrev pub Extends : Content → Content → Type 0
Extends old new = (id : SiteCounter) (r : Record) → get old.additions id ≡ Some r → get new.additions id ≡ Some r

-- no live record has stopped being live
abbrev pub KeepsLive : Content → Content → Type 0
KeepsLive old new = (id : SiteCounter) → is_live old id ≡ true → is_live new id ≡ true
