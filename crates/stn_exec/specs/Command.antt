-- The commands that lines are.
use Rattle.std.specs.{Prelude.{ℕ, ◌==◌, Bool, ◌||◌, if◌then◌else◌, List, [], ◌∷◌, length, codes, Option, Some, None, Result, Ok, is_some, option_and_then}, List.{list_all, filter_map}, Option.option_map, Str.bytes_eq}
use Rattle.stn_refusal.specs.declared.failure.Failure.{Failure}
use Rattle.stn_text.specs.Numbers.{number_of}
use Rattle.stn_net.specs.Difference.{Difference}
use Rattle.stn_records.specs.Id.{SiteCounter}
use Rattle.stn_site.specs.declared.change.Change.{Change, TheVariants.{Add, Amend, Withdraw, Done}}
use Rattle.stn_questions.specs.{declared.{asked.Question.TheVariants.{Why, WhyApart}, words.Outlook.Outlook}, Words.{lone_query, outlook_of}}
use Rattle.stn_command.specs.{Words.{and_then, event_of, id_of, time_read, times_read, bound_between}, Dispatch.every_event, Query.{Query, check, foresee, ask, seen_lone}}

-- what a command does: it changes what the site holds, merges another site, sends all that the site holds or some of its records and
-- withdrawn ids, takes in a packet, or asks the site; a time that can't be read is told at a site that is there
pub data Action : Type 0 where
  change : (asked : Result Change Failure) → Action
  merge : (other : ℕ) → Action
  send_all : Action
  send : (records tombstones : List SiteCounter) → Action
  deliver : (packet : ℕ) → Action
  query : (asked : Result Query Failure) → Action

-- a command of one site
pub record Command : Type 0 where
  pub site : ℕ
  pub action : Action

-- the word that stands alone
abbrev pub lone_word : List (List ℕ) → Option (List ℕ)
lone_word (word ∷ []) = Some word
lone_word other = None

-- the number that stands alone
abbrev pub lone_number : List (List ℕ) → Option ℕ
lone_number words = option_and_then number_of (lone_word words)

-- the word of a side of a bound; `*` stands for none
abbrev pub side_word : List ℕ → Option (List ℕ)
side_word word = if bytes_eq word (codes "*") then None else Some word

-- the form `<event> <event> <bound> <bound>`
abbrev pub bound_asked : List (List ℕ) → Option (Result Difference Failure)
bound_asked (from ∷ (to ∷ (lo ∷ (hi ∷ [])))) =
    option_and_then (λ first. option_map (λ second. bound_between first second (side_word lo) (side_word hi)) (event_of to)) (event_of from)
bound_asked other = None

-- the form `add <event> <event> <bound> <bound>`, after its name
abbrev pub add_of : List (List ℕ) → Option Action
add_of words = option_map (λ bound. change (and_then bound (λ read. Ok (Add read)))) (bound_asked words)

-- the form `amend <id> <event> <event> <bound> <bound>`
abbrev pub amend_of : List (List ℕ) → Option Action
amend_of [] = None
amend_of (word ∷ words) = option_and_then (λ old. option_map (λ bound. change (and_then bound (λ read. Ok (Amend old read)))) (bound_asked words)) (id_of word)

-- the form `withdraw <id>`
abbrev pub withdraw_of : List (List ℕ) → Option Action
withdraw_of words = option_map (λ id. change (Ok (Withdraw id))) (option_and_then id_of (lone_word words))

-- the form `done <event> <t>`
abbrev pub done_of : List (List ℕ) → Option Action
done_of (event ∷ (time ∷ [])) = option_map (λ which. change (and_then (time_read time) (λ read. Ok (Done which read)))) (event_of event)
done_of other = None

-- the withdrawn id that is printed after `-`
abbrev pub tombstone_of : List ℕ → Option SiteCounter
tombstone_of [] = None
tombstone_of (first ∷ word) = if first == 45 then id_of word else None

-- the word names a record or a withdrawn id
abbrev pub is_item : List ℕ → Bool
is_item word = is_some (id_of word) || is_some (tombstone_of word)

-- the sending of the records and of the withdrawn ids that the words name, in any order
abbrev pub send_items : List (List ℕ) → Action
send_items words = send (filter_map id_of words) (filter_map tombstone_of words)

-- the forms `send` and `send <item> ..`; an item is the id of a record, or a withdrawn id after `-`
abbrev pub send_of : List (List ℕ) → Option Action
send_of [] = Some send_all
send_of (word ∷ words) = if list_all is_item (word ∷ words) then Some (send_items (word ∷ words)) else None

-- times, one for each event
abbrev pub check_read : List (List ℕ) → Result Query Failure
check_read words = and_then (times_read words) (λ times. Ok (check times))

-- the form `check <t> ..`
abbrev pub check_of : ℕ → List (List ℕ) → Option Action
check_of events words = if length words == events then Some (query (check_read words)) else None

-- the forms `why <event>` and `why <event> <event>`
abbrev pub why_of : List (List ℕ) → Option Action
why_of (event ∷ []) = option_map (λ which. query (Ok (ask (Why which)))) (event_of event)
why_of (from ∷ (to ∷ [])) = option_and_then (λ first. option_map (λ second. query (Ok (ask (WhyApart first second)))) (event_of to)) (event_of from)
why_of other = None

-- the forms `next <t>`, `ready <t>` and `rehearse <t>`
abbrev pub outlook_from : Outlook → List (List ℕ) → Option Action
outlook_from outlook words = option_map (λ now. query (and_then (time_read now) (λ time. Ok (foresee outlook time every_event)))) (lone_word words)

-- the forms of one word
abbrev pub alone_of : List ℕ → List (List ℕ) → Option Action
alone_of name [] = option_map (λ asked. query (Ok (seen_lone asked))) (lone_query name)
alone_of name other = None

abbrev pub outlook_or_alone : Option Outlook → List ℕ → List (List ℕ) → Option Action
outlook_or_alone (Some outlook) name words = outlook_from outlook words
outlook_or_alone None name words = alone_of name words

-- the forms by their names
abbrev pub action_of : ℕ → List ℕ → List (List ℕ) → Option Action
action_of events name words =
    if bytes_eq name (codes "add") then add_of words else
    (if bytes_eq name (codes "amend") then amend_of words else
    (if bytes_eq name (codes "withdraw") then withdraw_of words else
    (if bytes_eq name (codes "done") then done_of words else
    (if bytes_eq name (codes "merge") then option_map merge (lone_number words) else
    (if bytes_eq name (codes "send") then send_of words else
    (if bytes_eq name (codes "deliver") then option_map deliver (lone_number words) else
    (if bytes_eq name (codes "check") then check_of events words else
    (if bytes_eq name (codes "why") then why_of words else outlook_or_alone (outlook_of name) name words))))))))

-- a site's command
abbrev pub sites_command : ℕ → Action → Command
sites_command site action = record { site = site; action = action }

-- the command that a line's words are, in a plan of so many events: a site, a name, and what belongs to the name
abbrev pub command_of : ℕ → List (List ℕ) → Option Command
command_of events [] = None
command_of events (site ∷ []) = None
command_of events (site ∷ (name ∷ words)) =
    option_and_then (λ number. option_map (sites_command number) (action_of events name words)) (number_of site)
