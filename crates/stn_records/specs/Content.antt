-- What a state holds, as three finite maps.
use Rattle.std.specs.{Prelude.{◌≡◌, ◌≢◌, ℕ, ◌+◌, ◌≤◌, Bool, not, ◌&&◌, ◌||◌, ◌==◌, nat_le, max, length, List, [], ◌∷◌, ◌++◌, filter, All, Option, Some, None, is_some, IsTrue, if◌then◌else◌, refl}, Coded.{Coded, code_by, coded×}, Set.{distinct_count, is_member}, FinMap.FinMap}
use base.Stored.{coded_unit}
use Rattle.std.specs.FinMap as map
use Rattle.stn_net.specs.Difference.{Difference}
use Rattle.stn_records.specs.{Id.{SiteCounter, id_cmp, coded_id, lesser_of}, Record.{IsProperRecord, same_records, coded_record}, Join.join_within, declared.record.{Mark.{Mark, TheVariants.Plain}, Record.Record}}
pub use Rattle.stn_records.specs.Id.{same_ids}
use Rattle.stn_records.specs.Maps as maps

-- a replica knows at most so many ids
abbrev pub most_known : ℕ
most_known = 4096

-- a map from ids to records, a set of ids, and a map from the id of a record to the id that it replaces
abbrev pub RecordMap : Type 0
RecordMap = FinMap id_cmp Record

abbrev pub IdSet : Type 0
IdSet = FinMap id_cmp (Unit {0})

abbrev pub ReplacementMap : Type 0
ReplacementMap = FinMap id_cmp SiteCounter

abbrev pub coded_records : Coded RecordMap
coded_records = map.code coded_id coded_record

abbrev pub coded_ids : Coded IdSet
coded_ids = map.code coded_id coded_unit

abbrev pub coded_replacements : Coded ReplacementMap
coded_replacements = map.code coded_id coded_id

-- the records that were added, the ids that were withdrawn, and what the added records replace
pub record Content : Type 0 where
  pub additions : RecordMap
  pub tombstones : IdSet
  pub replacements : ReplacementMap

abbrev pub coded_content : Coded Content
coded_content = code_by ((RecordMap × IdSet) × ReplacementMap) (coded× (coded× coded_records coded_ids) coded_replacements) (λ s. ((s.additions, s.tombstones), s.replacements)) (λ p. record { additions = p.0.0; tombstones = p.0.1; replacements = p.1 }) (λ _. refl)

-- an item: one addition, one withdrawal, or one entry that replaces an old id by that of a record
pub data Item : Type 0 where
  addition : SiteCounter → Record → Item
  withdrawal : SiteCounter → Item
  replacement : SiteCounter → SiteCounter → Item

-- the content has the item
abbrev pub HasItem : Content → Item → Type 0
HasItem s (addition id r) = map.get s.additions id ≡ Some r
HasItem s (withdrawal id) = map.get s.tombstones id ≡ Some tt
HasItem s (replacement id old) = map.get s.replacements id ≡ Some old

-- the whole has each item of the part
abbrev pub IsPart : Content → Content → Type 0
IsPart part whole = (item : Item) → HasItem part item → HasItem whole item

-- each Done record of the map is proper
abbrev pub AllProper : RecordMap → Type 0
AllProper = maps.AllFit IsProperRecord

-- the least id in dispute, in the records or in what they replace
abbrev pub dispute_contents : Content → Content → Option SiteCounter
dispute_contents a b = lesser_of (maps.dispute same_records a.additions b.additions) (maps.dispute same_ids a.replacements b.replacements)

-- the unions of the three parts
abbrev pub joined_contents : Content → Content → Content
joined_contents a b = record { additions = maps.union a.additions b.additions; tombstones = maps.union a.tombstones b.tombstones; replacements = maps.union a.replacements b.replacements }

-- the join of two contents, where no id is in dispute
abbrev pub join_contents : Content → Content → Option Content
join_contents a b = if is_some (dispute_contents a b) then None else Some (joined_contents a b)

-- the set with more ids
abbrev pub with_ids : IdSet → List SiteCounter → IdSet
with_ids set [] = set
with_ids set (id ∷ ids) = map.insert (with_ids set ids) id tt

-- the replaced ids: those that were withdrawn, and those that records replace
abbrev pub replaced_set : Content → IdSet
replaced_set s = with_ids s.tombstones (map.values s.replacements)

abbrev pub is_replaced : Content → SiteCounter → Bool
is_replaced s id = map.contains_key (replaced_set s) id

-- in their order, and how many there are
abbrev pub replaced_ids : Content → List SiteCounter
replaced_ids s = map.keys (replaced_set s)

abbrev pub replaced_count : Content → ℕ
replaced_count s = length (replaced_ids s)

-- an id is known where it was added or is replaced
abbrev pub is_known : Content → SiteCounter → Bool
is_known s id = map.contains_key s.additions id || is_replaced s id

-- the ids that were added, and then those that are replaced; an id may be among both
abbrev pub known_ids : Content → List SiteCounter
known_ids s = map.keys s.additions ++ replaced_ids s

-- how many ids are known, each counted once
abbrev pub known_count : Content → ℕ
known_count s = distinct_count same_ids (known_ids s)

-- how many ids two contents know together
abbrev pub known_in_either : Content → Content → ℕ
known_in_either a b = distinct_count same_ids (known_ids a ++ known_ids b)

-- a content knows no more ids than a site may
abbrev pub is_limited : Content → Bool
is_limited s = nat_le (known_count s) most_known

-- what a take leaves: the join, where it is there and knows no more ids than the most
abbrev pub content_taken : Content → Content → Option Content
content_taken = join_within is_limited join_contents

-- whether a record is live: it was added, and is not replaced
abbrev pub is_live : Content → SiteCounter → Bool
is_live s id = map.contains_key s.additions id && not (is_replaced s id)

-- the records that are not replaced, in order of id
abbrev pub live_of : Content → List (SiteCounter × Record)
live_of s = filter (λ entry. not (is_replaced s entry.0)) (map.entries s.additions)

-- two contents have the same additions and the same replaced ids
pub record CountsSame (a b : Content) : Type 0 where
  pub additions : a.additions ≡ b.additions
  pub replaced : replaced_set a ≡ replaced_set b

-- an entry as its id, its mark and its bound
abbrev pub listed : SiteCounter × Record → SiteCounter × Mark × Difference
listed entry = (entry.0, entry.1.mark, entry.1.bound)

-- the greatest counter of a site among the ids, or 0
abbrev pub greatest_counter : ℕ → List SiteCounter → ℕ
greatest_counter site [] = 0
greatest_counter site (id ∷ ids) = if id.site == site then max id.counter (greatest_counter site ids) else greatest_counter site ids

-- one more than the greatest counter of a site among all known ids
abbrev pub next_counter : Content → ℕ → ℕ
next_counter s site = greatest_counter site (known_ids s) + 1

-- nothing; with one more record; with one more id withdrawn
abbrev pub no_content : Content
no_content = record { additions = map.empty; tombstones = map.empty; replacements = map.empty }

abbrev pub with_record : Content → SiteCounter → Record → Content
with_record s id r = record s { additions = map.insert s.additions id r }

abbrev pub with_tombstone : Content → SiteCounter → Content
with_tombstone s id = record s { tombstones = map.insert s.tombstones id tt }

abbrev pub one_record : SiteCounter → Record → Content
one_record id r = with_record no_content id r

abbrev pub one_tombstone : SiteCounter → Content
one_tombstone id = with_tombstone no_content id

-- the Plain record of a bound
abbrev pub plain : Difference → Record
plain bound = record { mark = Plain; bound = bound }

-- with one more Plain record, which replaces an old id
abbrev pub with_amendment : Content → SiteCounter → SiteCounter → Difference → Content
with_amendment s id old bound = record s { additions = map.insert s.additions id (plain bound); replacements = map.insert s.replacements id old }

abbrev pub one_amendment : SiteCounter → SiteCounter → Difference → Content
one_amendment id old bound = with_amendment no_content id old bound

-- the records with the ids of the first list, with what they replace, and the tombstones of the second, alone
abbrev pub part_of : Content → List SiteCounter → List SiteCounter → Content
part_of s records tombstones = record {
  additions = map.retain_keys s.additions (λ id. is_member same_ids records id);
  tombstones = map.retain_keys s.tombstones (λ id. is_member same_ids tombstones id);
  replacements = map.retain_keys s.replacements (λ id. is_member same_ids records id);
}

-- each id of the list is a key of the map
abbrev pub AllHeld : {X : Type 0} → FinMap id_cmp X → List SiteCounter → Type 0
AllHeld m ids = All (λ id. IsTrue (map.contains_key m id)) ids

-- an old id is replaced by a Plain record of another id
pub record IsAmendment (additions : RecordMap) (id old : SiteCounter) : Type 0 where
  pub added : (bound : Difference) × (map.get additions id ≡ Some (plain bound))
  pub other : id ≢ old

-- each entry is an amendment
abbrev pub AllAmend : Content → Type 0
AllAmend s = (id old : SiteCounter) → map.get s.replacements id ≡ Some old → IsAmendment s.additions id old

-- what is true of each content of a site: its Done records are proper, its entries are amendments, and it knows no more ids than the most
pub record IsSound (s : Content) : Type 0 where
  pub proper : AllProper s.additions
  pub amends : AllAmend s
  pub limited : known_count s ≤ most_known
