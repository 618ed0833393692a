-- The steps of the world that a script takes, and the reports that it prints.
use Rattle.std.specs.Prelude.{◌≡◌, ℕ, ℤ, ◌+◌, false, List, ◌∷◌, ◌++◌, length, option_to_list, option_and_then, if◌then◌else◌, [], Some, Ok}
use Rattle.stn_lift.specs.PlanSource.{events_of}
use Rattle.stn_text.specs.Lines.{lines_of, words_of}
use Rattle.stn_world.specs.{World.{World, HasSite, opening_world}, Steps.{Step, run}}
use Rattle.stn_questions.specs.{declared.{asked.Question.Question, words.Outlook.TheVariants.Ready}, Answer.{AsksOfNoEvent, AsksOfSameEvent}}
use Rattle.stn_command.specs.{Query.{Query, report, foresee, ask}, Dispatch.every_event}
use Rattle.stn_exec.specs.{Command.{query, sites_command, command_of}, Effect.command_step, Output.IsOutput, Script.{Start, is_skipped, heading_of, last_line, line_outcome, lines_outcome}}

-- the step that a line's words are in a world, if they are one
abbrev pub line_steps : World → List (List ℕ) → List Step
line_steps world words =
    if is_skipped words then [] else option_to_list (option_and_then (command_step world) (command_of (events_of world.source) words))

-- the steps of lines, each in the world that the lines before it leave
unfoldable pub steps_of_lines : World → List (List ℕ) → List Step
steps_of_lines world [] = []
steps_of_lines world (line ∷ lines) =
    let steps = line_steps world (words_of line) in
    steps ++ steps_of_lines (run world steps) lines

-- a line of a script: where the commands begin, the lines before it, the line, and those after it
pub record LineOf (script : List ℕ) : Type 0 where
  pub start : Start
  pub before : List (List ℕ)
  pub line : List ℕ
  pub behind : List (List ℕ)
  pub heading : heading_of (last_line script) (lines_of script) ≡ Ok start
  pub lines : start.lines ≡ before ++ line ∷ behind

-- the world where the script's commands begin
abbrev pub first_world : {script : List ℕ} → LineOf script → World
first_world at = opening_world at.start.source at.start.sites

-- the steps of the lines before it
abbrev pub steps_before : {script : List ℕ} → LineOf script → List Step
steps_before at = steps_of_lines (first_world at) at.before

-- the world that these lines leave
abbrev pub world_at : {script : List ℕ} → LineOf script → World
world_at at = (lines_outcome at.start.number (first_world at) at.before).world

-- the line asks this of a site, and the site is there
pub record QueriesSite {script : List ℕ} (at : LineOf script) (site : ℕ) (asked : Query) : Type 0 where
  pub kept : is_skipped (words_of at.line) ≡ false
  pub command : command_of (events_of at.start.source) (words_of at.line) ≡ Some (sites_command site (query (Ok asked)))
  pub there : HasSite (first_world at) site

-- it is a site's command `report`
abbrev pub ReportsSite : {script : List ℕ} → LineOf script → ℕ → Type 0
ReportsSite at site = QueriesSite at site report

-- a site's question, which is not about an event that the plan lacks, nor about an event and itself
abbrev pub AsksSite : {script : List ℕ} → LineOf script → ℕ → Question → Type 0
AsksSite at site question = QueriesSite at site (ask question) × ¬ AsksOfNoEvent at.start.source question × ¬ AsksOfSameEvent question

-- a site's command `ready` from a time on
abbrev pub AsksReady : {script : List ℕ} → LineOf script → ℕ → ℤ → Type 0
AsksReady at site now = QueriesSite at site (foresee Ready now every_event)

-- the line prints the text: the output is what the lines before it print, the text, and what the lines after it print
pub record PrintsAt {script : List ℕ} (at : LineOf script) (output text : List ℕ) : Type 0 where
  pub first : List ℕ
  pub last : List ℕ
  pub before : IsOutput (lines_outcome at.start.number (first_world at) at.before).replies first
  pub here : IsOutput (line_outcome (at.start.number + length at.before) (world_at at) (words_of at.line)).replies text
  pub behind : IsOutput (lines_outcome (at.start.number + length at.before + 1) (line_outcome (at.start.number + length at.before) (world_at at) (words_of at.line)).world at.behind).replies last
  pub whole : output ≡ first ++ (text ++ last)

-- two lines, of one script or of two, that ask the same of sites of one plan print the same bytes, where the sites took the same
abbrev pub PrintSame : ((script : List ℕ) → LineOf script → ℕ → Type 0) → (World → List Step → ℕ → World → List Step → ℕ → Type 0) → Type 0
PrintSame Asks TookSame = (script other output last text last_text : List ℕ) (at : LineOf script) (there : LineOf other) (site others : ℕ)
    → Asks script at site → Asks other there others → at.start.source ≡ there.start.source
    → TookSame (first_world at) (steps_before at) site (first_world there) (steps_before there) others
    → PrintsAt at output text → PrintsAt there last last_text → text ≡ last_text
