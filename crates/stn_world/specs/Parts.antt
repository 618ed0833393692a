-- Parts of what a site holds.
use Rattle.std.specs.{Prelude.{Bool, ◌&&◌, List, Some}, List.list_all, Option.option_eq}
use Rattle.std.specs.FinMap as map
use Rattle.stn_records.specs.{declared.record.Record.Record, Id.{SiteCounter, same_ids}, Record.same_records, Content.Content}

-- the record is the whole's under that id, and the part has the entry by which it replaces another exactly if the whole has it
abbrev pub has_whole_record : Content → Content → SiteCounter × Record → Bool
has_whole_record part whole entry =
    option_eq same_records (map.get whole.additions entry.0) (Some entry.1)
    && option_eq same_ids (map.get part.replacements entry.0) (map.get whole.replacements entry.0)

-- the test of a part: each of its records is the whole's and comes with its entry, each of its entries belongs to one of its records, and
-- each of its withdrawn ids is withdrawn in the whole
abbrev pub is_part : Content → Content → Bool
is_part part whole =
    list_all (has_whole_record part whole) (map.entries part.additions)
    && list_all (λ entry. map.contains_key part.additions entry.0) (map.entries part.replacements)
    && list_all (λ entry. map.contains_key whole.tombstones entry.0) (map.entries part.tombstones)

-- the content has the records of the first ids, and the second ids are withdrawn in it
abbrev pub holds_all : Content → List SiteCounter → List SiteCounter → Bool
holds_all content records tombstones =
    list_all (λ id. map.contains_key content.additions id) records && list_all (λ id. map.contains_key content.tombstones id) tombstones
