-- What `records` prints.
use Rattle.std.specs.{Prelude.{◌≡◌, ◌↔◌, ℕ, Bool, true, List, [], ◌++◌, codes, Option, Some, None, if◌then◌else◌}, List.{Contains, flat_map, Sorted.IsStrictlySortedBy}, Set.is_member}
use Rattle.std.specs.FinMap as map
use Rattle.stn_records.specs.{Id.{SiteCounter, id_cmp, same_ids, id_text}, Record.is_done_mark as marks_done, declared.record.Record.Record, Content.{Content, is_known}}
use Rattle.stn_site.specs.Lines.{line, done_text}
use Rattle.stn_questions.specs.Bounds.{bound_text}

-- each known id stands there once, and no other; they are in order
pub record AreKnown (state : Content) (ids : List SiteCounter) : Type 0 where
  pub order : IsStrictlySortedBy id_cmp ids
  pub known : (id : SiteCounter) → Contains ids id ↔ (is_known state id ≡ true)

-- where the record is known ` <from> <to> <side> <side>`, and ` done` where it says that its event is done
abbrev pub held_text : Option Record → List ℕ
held_text None = []
held_text (Some one) = codes " " ++ bound_text one.bound ++ done_text (marks_done one.mark)

-- ` amends <id>`, where the record replaces an id
abbrev pub amends_text : Option SiteCounter → List ℕ
amends_text None = []
amends_text (Some old) = codes " amends " ++ id_text old

-- whether some record replaces the id
abbrev pub is_amended : Content → SiteCounter → Bool
is_amended state id = is_member same_ids (map.values state.replacements) id

-- the word, where it is so
abbrev pub word_where : Bool → List ℕ → List ℕ
word_where so word = if so then word else []

-- `<id>`, its record where that is known with the id that it replaces, and then what became of the id
abbrev pub record_line : Content → SiteCounter → List ℕ
record_line state id =
    line (id_text id ++ held_text (map.get state.additions id) ++ amends_text (map.get state.replacements id)
    ++ word_where (map.contains_key state.tombstones id) (codes " withdrawn") ++ word_where (is_amended state id) (codes " replaced"))

-- the text has a line for each known id, in order
pub record IsRecordsText (state : Content) (text : List ℕ) : Type 0 where
  pub ids : List SiteCounter
  pub known : AreKnown state ids
  pub lines : text ≡ flat_map (record_line state) ids
