-- The steps that words name, and those that words give to sites.
use Rattle.std.specs.{Prelude.{ℕ, ◌==◌, Bool, ◌&&◌, nat_le, nat_lt, if◌then◌else◌, List, ◌++◌, length, map, Option, Some, None, unwrap_or, Result, Ok, Err}, List.{slice_split, position_or_len, before_first, after_first, list_any}}
use Rattle.stn_text.specs.Numbers.{number_of}
use Rattle.stn_records.specs.Id.{most_sites}
use Rattle.stn_refusal.specs.declared.failure.Failure.{Failure}
use Rattle.stn_site.specs.declared.own.{StepRange.StepRange, OwnedSteps.OwnedSteps}
use Rattle.stn_command.specs.Words.{and_then, each_read, named, no_such_word}

-- the number of one to five digits that a word is
abbrev pub digits_read : List ℕ → Result ℕ Failure
digits_read word = named (number_of word)

-- what stands before the first of these bytes, and what after it; none where there is no such byte
abbrev pub around : ℕ → List ℕ → Option (List ℕ × List ℕ)
around mark word = if nat_lt (position_or_len (λ byte. byte == mark) word) (length word)
    then Some (before_first (λ byte. byte == mark) word, after_first (λ byte. byte == mark) word) else None

-- the steps from the first to the last; there is no step 0, and they don't fall
abbrev pub steps_between : ℕ → ℕ → Result StepRange Failure
steps_between first last = if nat_le 1 first && nat_le first last then Ok (record { first = first; last = last }) else Err no_such_word

-- the steps from one number to another
abbrev pub range_of : List ℕ × List ℕ → Result StepRange Failure
range_of ends = and_then (digits_read ends.0) (λ first. and_then (digits_read ends.1) (λ last. steps_between first last))

-- the first and the last step with `-` between, or one step
unfoldable pub range_read : List ℕ → Result StepRange Failure
range_read word = range_of (unwrap_or (around 45 word) (word, word))

-- steps and ranges with `,` between
unfoldable pub steps_read : List ℕ → Result (List StepRange) Failure
steps_read word = each_read range_read (slice_split (λ byte. byte == 44) word)

-- the number of a site
abbrev pub site_read : List ℕ → Result ℕ Failure
site_read word = and_then (digits_read word) (λ site. if nat_le 1 site && nat_le site most_sites then Ok site else Err no_such_word)

-- a site and its steps with `:` between
abbrev pub owned_of : Option (List ℕ × List ℕ) → Result (List OwnedSteps) Failure
owned_of None = Err no_such_word
owned_of (Some parts) = and_then (site_read parts.0) (λ site. and_then (steps_read parts.1) (λ ranges. Ok (map (λ range. record { site = site; steps = range }) ranges)))

unfoldable pub owned_read : List ℕ → Result (List OwnedSteps) Failure
owned_read word = owned_of (around 58 word)

-- the ranges have a step in common
abbrev pub share_step : StepRange → StepRange → Bool
share_step one other = nat_le one.first other.last && nat_le other.first one.last

-- a step of the range is given to a site
abbrev pub is_given : List OwnedSteps → StepRange → Bool
is_given given range = list_any (λ one. share_step one.steps range) given

abbrev pub share_steps : List OwnedSteps → List OwnedSteps → Bool
share_steps given more = list_any (λ one. is_given given one.steps) more

-- what is given, and what a word gives too; no other word may name the same step
unfoldable pub owned_too : List OwnedSteps → List ℕ → Result (List OwnedSteps) Failure
owned_too given word = and_then (owned_read word) (λ more. if share_steps given more then Err no_such_word else Ok (given ++ more))
