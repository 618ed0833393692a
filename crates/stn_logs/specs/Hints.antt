-- What people may not expect of a change that was accepted, and how it is told.
use Rattle.std.specs.{Prelude.{◌≡◌, ◌↔◌, ◌==◌, ◌&&◌, ℕ, nat_le, Bool, true, false, not, filter, length, List, [], ◌∷◌, ◌++◌, codes, Option, Some, None, is_some, if◌then◌else◌}, Borrow.Bor, List.flat_map}
use Rattle.std.specs.FinMap as map
use Rattle.stn_text.specs.Bytes.{line_feed}
use Rattle.stn_net.specs.Schedule.{HasSchedule}
use Rattle.stn_records.specs.{Id.SiteCounter, Record.is_done_mark, declared.record.Record.Record, Content.{Content, live_of}}
use Rattle.stn_site.specs.{Bounds.all_bounds, Held.Held}
use Rattle.stn_command.specs.Words.{event_of, id_of}
use Rattle.stn_line.specs.declared.words.{LogChange.{LogChange, TheVariants.{Add, Amend, Withdraw, Done, Guard}}, Line.{Line, TheVariants.Change}}
use Rattle.stn_store.specs.{Steps.Entries, Store.Opens}
use Rattle.stn_logs.specs.declared.hints.Hint.{Hint, TheVariants.{NoSide, NotDone, DoneTwice, NoSchedule}}

-- ---- when there is a hint
-- neither side of a bound is given
abbrev pub is_sideless : Option (Bor (List ℕ)) → Option (Bor (List ℕ)) → Bool
is_sideless lo hi = not (is_some lo) && not (is_some hi)

-- a record that is there says that an event was done
abbrev pub is_of_done : Option Record → Bool
is_of_done None = false
is_of_done (Some one) = is_done_mark one.mark

abbrev pub was_done : Content → Option SiteCounter → Bool
was_done state None = false
was_done state (Some id) = is_of_done (map.get state.additions id)

-- so many live records say that an event is done
abbrev pub is_done_of : ℕ → Record → Bool
is_done_of event one = is_done_mark one.mark && (one.bound.to == event)

abbrev pub done_count : Content → ℕ → ℕ
done_count state event = length (filter (λ entry. is_done_of event entry.1) (live_of state))

abbrev pub is_done_twice : Content → Option ℕ → Bool
is_done_twice state None = false
is_done_twice state (Some event) = nat_le 2 (done_count state event)

-- a hint, where it is so
abbrev pub hint_where : Bool → Hint → List Hint
hint_where so hint = if so then hint ∷ [] else []

-- the hints that the words of a change and the records that it left decide
abbrev pub hints_of_words : LogChange → Content → List Hint
hints_of_words (Add from to lo hi) state = hint_where (is_sideless lo hi) NoSide
hints_of_words (Amend id from to lo hi) state =
    hint_where (is_sideless lo hi) NoSide ++ hint_where (was_done state (id_of id.now)) (NotDone id)
hints_of_words (Done event time) state = hint_where (is_done_twice state (event_of event.now)) (DoneTwice event)
hints_of_words change state = []

-- no schedule is left after a change that brings bounds; a guard says so itself
abbrev pub LeavesNone : LogChange → Held → Type 0
LeavesNone (Withdraw id) held = ⊥
LeavesNone (Guard owned) held = ⊥
LeavesNone change held = ¬ HasSchedule (all_bounds held.source held.state)

-- the hints of a change that left this, in their order
abbrev pub AreHints : LogChange → Held → List Hint → Type 0
AreHints change held hints = (none : Bool) × (none ≡ true ↔ LeavesNone change held) × (hints ≡ hints_of_words change held.state ++ hint_where none NoSchedule)

-- ---- how hints are told
abbrev pub hint_text : Hint → List ℕ
hint_text NoSide = codes "the bound has no side, so it demands nothing"
hint_text (NotDone id) = id.now ++ codes " said that an event was done, which no longer counts"
hint_text (DoneTwice event) = event.now ++ codes " is recorded as done twice"
hint_text NoSchedule = codes "no schedule is left (see repairs)"

-- hints after the first
abbrev pub more_text : List Hint → List ℕ
more_text hints = flat_map (λ hint. codes "; " ++ hint_text hint) hints

-- the line of all hints, where there are any
abbrev pub hints_text : List Hint → List ℕ
hints_text [] = []
hints_text (hint ∷ more) = codes "hint: " ++ (hint_text hint ++ (more_text more ++ line_feed ∷ []))

abbrev pub IsHintText : LogChange → Held → List ℕ → Type 0
IsHintText change held text = (hints : List Hint) × AreHints change held hints × (text ≡ hints_text hints)

-- the hints of a command that was done, by what its log says then
abbrev pub IsHinted : Entries → Line → List ℕ → Type 0
IsHinted entries (Change log change) text = (held : Held) × Opens entries log.name.now log.site held × IsHintText change held text
IsHinted entries line text = text ≡ []
