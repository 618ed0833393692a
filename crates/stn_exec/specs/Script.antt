-- A script: its heading, and the fold of its commands.
use Rattle.std.specs.{Prelude.{ℕ, ◌+◌, Bool, true, ◌==◌, ◌&&◌, nat_le, if◌then◌else◌, List, [], ◌∷◌, ◌++◌, codes, slice_index, count_by, Option, Some, None, Result, Ok, Err, ok_or}, Str.bytes_eq}
use Rattle.stn_refusal.specs.{declared.{code.Code.TheVariants.{Line, NoSite}, failure.Failure.Failure}, Refusals.{refused, refused_at}}
use Rattle.stn_lift.specs.{declared.fault.BaseFault.BaseFault, Failures.base_failure, PlanSource.{PlanSource, bare, files, events_of, base_of}}
use Rattle.stn_records.specs.Id.{most_sites}
use Rattle.stn_text.specs.{Lines.{is_line_end, lines_of, words_of}, Numbers.number_of}
use Rattle.stn_world.specs.World.{World, opening_world}
use Rattle.stn_command.specs.Words.{and_then}
use Rattle.stn_exec.specs.{Effect.{CommandReply, declined, CommandEffect, refusing, command_effect}, Command.{Command, command_of}, Blocks.{Block, is_alone, block_from}}

-- what running lines leaves, replies, and how many commands it counts
pub record Outcome : Type 0 where
  pub world : World
  pub replies : List CommandReply
  pub commands : ℕ

-- no line is run
abbrev pub nothing_run : World → Outcome
nothing_run world = record { world = world; replies = []; commands = 0 }

-- one outcome and then the next
abbrev pub followed_by : Outcome → Outcome → Outcome
followed_by first next = record {
  world = next.world;
  replies = first.replies ++ next.replies;
  commands = first.commands + next.commands;
}

-- a line that is a command, or has another form
abbrev pub form_effect : ℕ → World → Option Command → CommandEffect
form_effect number world None = refusing world (refused_at Line number)
form_effect number world (Some command) = command_effect world command

-- the line has no words, or is a comment
abbrev pub is_skipped : List (List ℕ) → Bool
is_skipped [] = true
is_skipped (word ∷ words) = slice_index word 0 == 35

-- what a line that is not skipped does
unfoldable pub line_effect : ℕ → World → List (List ℕ) → CommandEffect
line_effect number world words = form_effect number world (command_of (events_of world.source) words)

-- a command is counted, and prints its reply
abbrev pub effect_outcome : CommandEffect → Outcome
effect_outcome effect = record {
  world = effect.world;
  replies = effect.reply ∷ [];
  commands = 1;
}

-- a line of a number
unfoldable pub line_outcome : ℕ → World → List (List ℕ) → Outcome
line_outcome number world words =
    if is_skipped words then nothing_run world else effect_outcome (line_effect number world words)

-- lines, one after the other; the first has this number
unfoldable pub lines_outcome : ℕ → World → List (List ℕ) → Outcome
lines_outcome number world [] = nothing_run world
lines_outcome number world (line ∷ lines) =
    let first = line_outcome number world (words_of line) in
    followed_by first (lines_outcome (number + 1) first.world lines)

-- a line that is not skipped: its number, its words, and the lines after it
pub record Found : Type 0 where
  pub number : ℕ
  pub words : List (List ℕ)
  pub behind : List (List ℕ)

-- the first line that is not skipped, of lines of which the first has this number
unfoldable pub next_line : ℕ → List (List ℕ) → Option Found
next_line number [] = None
next_line number (line ∷ lines) =
    if is_skipped (words_of line) then next_line (number + 1) lines
    else Some (record { number = number; words = words_of line; behind = lines })

-- the form `<name> <number>`
abbrev pub heading_number : List ℕ → List (List ℕ) → Option ℕ
heading_number name [] = None
heading_number name (word ∷ []) = None
heading_number name (word ∷ (digits ∷ [])) = if bytes_eq word name then number_of digits else None
heading_number name (word ∷ (digits ∷ (other ∷ words))) = None

-- where nothing of the form stands, the refusal names a line
abbrev pub or_line : {X : Type 0} → ℕ → Option X → Result X Failure
or_line number found = ok_or found (refused_at Line number)

-- there is a site, and no more than the most
abbrev pub sites_of : ℕ → Result ℕ Failure
sites_of sites = if nat_le 1 sites && nat_le sites most_sites then Ok sites else Err (refused NoSite)

-- the first part of the heading was read: what the plan is made from, the number of the first line after it, and the lines from there
pub record Based : Type 0 where
  pub source : PlanSource
  pub number : ℕ
  pub lines : List (List ℕ)

-- all of it was read: the same, and how many sites there are
pub record Start : Type 0 where
  pub source : PlanSource
  pub sites : ℕ
  pub number : ℕ
  pub lines : List (List ℕ)

-- the source that has a base, or the refusal of its first fault
abbrev pub refusing_fault : Result PlanSource BaseFault → Result PlanSource Failure
refusing_fault (Ok source) = Ok source
refusing_fault (Err fault) = Err (base_failure fault)

-- the base of a source is made, and the lines from a number on stand after it
abbrev pub with_base : PlanSource → ℕ → List (List ℕ) → Result Based Failure
with_base source number lines =
    and_then (refusing_fault (base_of source)) (λ made. Ok (record { source = made; number = number; lines = lines }))

-- the steps of a bare plan, by the line that says how many
abbrev pub bare_part : Found → Result Based Failure
bare_part found =
    and_then (or_line found.number (heading_number (codes "steps") found.words)) (λ steps.
    with_base (bare steps) (found.number + 1) found.behind)

-- the block that begins with the line of a number, where it ends; else the refusal names the last line of the script
abbrev pub block_at : ℕ → ℕ → List (List ℕ) → Result Block Failure
block_at last number lines = or_line last (block_from number lines)

-- the block of a name: a line that is its name alone, and the lines after that
abbrev pub named_block : ℕ → List ℕ → Found → Result Block Failure
named_block last name found =
    if is_alone name found.words then block_at last (found.number + 1) found.behind else Err (refused_at Line found.number)

-- the texts of a domain and of a plan, after the line `domain`
abbrev pub files_part : ℕ → Found → Result Based Failure
files_part last found =
    and_then (block_at last (found.number + 1) found.behind) (λ domain.
    and_then (or_line last (next_line domain.number domain.behind)) (λ next.
    and_then (named_block last (codes "plan") next) (λ plan.
    with_base (files domain.text plan.text) plan.number plan.behind)))

-- the first part of the heading, by its first line
abbrev pub first_part : ℕ → Found → Result Based Failure
first_part last found = if is_alone (codes "domain") found.words then files_part last found else bare_part found

-- the first part of the heading: what the plan is made from, whose base is made when the part is complete
unfoldable pub based : ℕ → List (List ℕ) → Result Based Failure
based last lines = and_then (or_line last (next_line 1 lines)) (first_part last)

-- the second part: the number of sites
unfoldable pub with_sites : ℕ → Based → Result Start Failure
with_sites last base =
    and_then (or_line last (next_line base.number base.lines)) (λ found.
    and_then (or_line found.number (heading_number (codes "sites") found.words)) (λ sites.
    and_then (sites_of sites) (λ count.
    Ok (record { source = base.source; sites = count; number = found.number + 1; lines = found.behind }))))

-- the heading: where the commands begin, or the first fault
abbrev pub heading_of : ℕ → List (List ℕ) → Result Start Failure
heading_of last lines = and_then (based last lines) (with_sites last)

-- a fault of the heading is printed, and ends the run; else the commands are run, at sites that hold nothing yet
abbrev pub started : Result Start Failure → Outcome
started (Ok start) = lines_outcome start.number (opening_world start.source start.sites) start.lines
started (Err cause) = record { world = opening_world (bare 0) 0; replies = declined cause ∷ []; commands = 0 }

-- the number of the line after the last LF
abbrev pub last_line : List ℕ → ℕ
last_line script = count_by is_line_end script + 1

-- a script, from its first byte to its last
unfoldable pub script_outcome : List ℕ → Outcome
script_outcome script = started (heading_of (last_line script) (lines_of script))
