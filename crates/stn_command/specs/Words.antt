-- What single words say.
use Rattle.std.specs.{Prelude.{ℕ, ℤ, neg_ℤ, ◌+◌, ◌==◌, Bool, ◌&&◌, nat_le, if◌then◌else◌, List, [], ◌∷◌, find, Option, Some, None, Result, Ok, Err, ok_or}, List.{range_with_len, before_first, after_first}, Str.{bytes_eq, Parse.digits_value}}
use Rattle.stn_refusal.specs.{declared.{code.Code.TheVariants.Line, failure.Failure.Failure}, Refusals.refused_at}
use Rattle.stn_time.specs.{Time.horizon, TimeOf.time_of, Failures.time_failure, declared.reading.TimeFault.TimeFault}
use Rattle.stn_net.specs.{Difference.Difference, Event.{most_events, event_text}}
use Rattle.stn_records.specs.Id.{most_sites, most_counter, SiteCounter, id_text}

-- the event below a number that is printed so
unfoldable pub event_below : ℕ → List ℕ → Option ℕ
event_below count word = find (λ event. bytes_eq word (event_text event)) (range_with_len 0 count)

-- the event that is printed so
abbrev pub event_of : List ℕ → Option ℕ
event_of word = event_below (most_events + 1) word

-- the numbers that stand before the first dot of a word and after it, as a site and a counter
abbrev pub around_dot : List ℕ → SiteCounter
around_dot word = record { site = digits_value 10 (before_first (λ byte. byte == 46) word); counter = digits_value 10 (after_first (λ byte. byte == 46) word) }

-- both numbers lie in their ranges
abbrev pub is_id : SiteCounter → Bool
is_id id = nat_le 1 id.site && (nat_le id.site most_sites && (nat_le 1 id.counter && nat_le id.counter most_counter))

-- the id that is printed so
unfoldable pub id_of : List ℕ → Option SiteCounter
id_of word = if is_id (around_dot word) && bytes_eq word (id_text (around_dot word)) then Some (around_dot word) else None

-- the value goes on, and a fault is the answer
abbrev pub and_then : {A B E : Type 0} → Result A E → (A → Result B E) → Result B E
and_then (Ok value) rest = rest value
and_then (Err fault) rest = Err fault

-- a faulty time refuses the command
abbrev pub spelled : Result ℤ TimeFault → Result ℤ Failure
spelled (Ok time) = Ok time
spelled (Err fault) = Err (time_failure fault)

-- the time that a word spells
abbrev pub time_read : List ℕ → Result ℤ Failure
time_read word = spelled (time_of word)

-- the side of a bound that a word spells; the open one, where there is no word
abbrev pub side_read : ℤ → Option (List ℕ) → Result ℤ Failure
side_read open_side None = Ok open_side
side_read open_side (Some word) = time_read word

-- the bound of two events and two sides; the lower side is read first
abbrev pub bound_between : ℕ → ℕ → Option (List ℕ) → Option (List ℕ) → Result Difference Failure
bound_between from to lo hi =
    and_then (side_read (neg_ℤ horizon) lo) (λ least.
    and_then (side_read horizon hi) (λ greatest.
    Ok (record { from = from; to = to; lo = least; hi = greatest })))

-- what each of the words says, or the first fault
abbrev pub each_read : {W X E : Type 0} → (W → Result X E) → List W → Result (List X) E
each_read read [] = Ok []
each_read read (word ∷ words) = and_then (read word) (λ value. and_then (each_read read words) (λ values. Ok (value ∷ values)))

-- the times that words spell
abbrev pub times_read : List (List ℕ) → Result (List ℤ) Failure
times_read words = each_read time_read words

-- words that are not of the form that a command wants, where no line of a script is to be named
abbrev pub no_such_word : Failure
no_such_word = refused_at Line 0

-- what a word names
abbrev pub named : {X : Type 0} → Option X → Result X Failure
named value = ok_or value no_such_word
