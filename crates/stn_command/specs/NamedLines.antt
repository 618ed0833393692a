-- Answers whose lines end in the names of the steps that they are about.
use Rattle.std.specs.{Prelude.{ℕ, Bool, ◌-◌, ◌==◌, ◌||◌, bytes_eq, if◌then◌else◌, List, [], ◌∷◌, ◌++◌, codes, length, take, slice_index_or, Option, Some, None}, List.{filter_map, flat_map, list_any, range_with_len}}
use Rattle.std.specs.FinMap as map
use Rattle.stn_text.specs.Lines.{lines_of, words_of}
use Rattle.stn_lift.specs.BaseBounds.{step_of}
use Rattle.stn_records.specs.{Content.Content, Id.SiteCounter, declared.record.Record.Record}
use Rattle.stn_site.specs.Lines.{line}
use Rattle.stn_command.specs.Words.{event_of, id_of}

-- the record that a word names by its id, if the state has it
abbrev pub record_at : Content → Option SiteCounter → Option Record
record_at state None = None
record_at state (Some id) = map.get state.additions id

-- the two events of a record
abbrev pub ends_of_record : Option Record → List ℕ
ends_of_record None = []
ends_of_record (Some one) = one.bound.from ∷ one.bound.to ∷ []

-- the events that the words of a line name, in their order; the words after `drop` name records, and these their events
abbrev pub named_events : Content → List (List ℕ) → List ℕ
named_events state [] = []
named_events state (word ∷ words) = if bytes_eq word (codes "drop")
    then flat_map (λ one. ends_of_record (record_at state (id_of one))) words
    else filter_map event_of (word ∷ words)

-- two spaces and the name of an event's step; nothing for the origin, and where the step is named already
abbrev pub name_unless : List (List ℕ) → Bool → ℕ → List ℕ
name_unless names is_named event = if (event == 0) || is_named then [] else codes "  " ++ slice_index_or names (step_of event - 1) []

-- the same, after other events: their steps are named already
abbrev pub name_after : List (List ℕ) → List ℕ → ℕ → List ℕ
name_after names before event = name_unless names (list_any (λ other. step_of other == step_of event) before) event

-- the same of each of the events, in their order: so each step is named once
abbrev pub names_of_events : List (List ℕ) → List ℕ → List ℕ
names_of_events names events = flat_map (λ place. name_after names (take place events) (slice_index_or events place 0)) (range_with_len 0 (length events))

-- a line, and the names of the steps whose events it names
abbrev pub line_with_names : List (List ℕ) → Content → List ℕ → List ℕ
line_with_names names state text = line (text ++ names_of_events names (named_events state (words_of text)))

-- the lines of an answer, each with its names
abbrev pub with_names : List (List ℕ) → Content → List ℕ → List ℕ
with_names names state answer = flat_map (line_with_names names state) (lines_of answer)
