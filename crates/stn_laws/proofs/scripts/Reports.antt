-- The commands of a script are a run of the world's steps.
use Rattle.std.{proofs.{Common.{rules, ◌≡◌, ◌↔◌, ℕ, ℤ, ◌+◌, Bool, true, false, cond, List, [], ◌∷◌, ◌++◌, length, Option, Some, None, Ok, inl, inr, option_to_list, refl, sym, ap, subst, ◌∙◌, append_assoc}, lemmas.{Bool.false≢true, Option.none-some, List.Sums.fold-append}}, specs.Prelude.option_and_then}
use Rattle.stn_lift.specs.PlanSource.{PlanSource, events_of}
use Rattle.stn_text.specs.Lines.{lines_of, words_of}
use Rattle.stn_site.specs.{Bounds.all_bounds, Report.{IsReport, done_events}, Held.holding_state}
use Rattle.stn_laws.{specs.Reports.{line_steps, steps_of_lines, LineOf, first_world, steps_before, world_at, QueriesSite, ReportsSite, AsksSite, AsksReady, PrintsAt, PrintSame}, proofs.worlds.Runs.{run_stays, run_keeps, coherent_run}}
use Rattle.stn_world.{specs.{World.{World, HasSite, opening_world, content_at}, Whole.IsCoherent, Steps.{Step, sent, IsAccepted, run, TookAt}}, proofs.{Sendings.{part_free, all_free}, Whole.coherent_at_first}}
use Rattle.stn_records.specs.Content.{Content, Item, HasItem}
use Rattle.stn_refusal.specs.{declared.failure.Failure.TheVariants.Refused, Refusals.refused}
use Rattle.stn_questions.specs.{declared.asked.Question.Question, Answer.IsAnswer, Ready.{IsReadyText, IsReadyWith}}
use Rattle.stn_command.{specs.{Query.{Query, IsSaid, IsQueryRefusal}, Dispatch.{every_event, done_or_not_chosen}}, proofs.OneRefusal.one_refusal}
use Rattle.stn_exec.{specs.{Command.{Action, query, Command, sites_command, command_of}, Effect.{CommandEffect, CommandReply, told, sending, sent_step, action_effect, command_effect, action_step, command_step}, Script.{Outcome, Start, is_skipped, form_effect, line_outcome, lines_outcome, heading_of, last_line, script_outcome}, Output.{IsReplyText, IsOutput}}, proofs.{Effects.there_effect, Scripts.{line_outcome-skipped, line_outcome-run, line_effect-is, script_outcome-is}}}

sending_run : (world : World) (site : ℕ) (part : Content) (held : Bool) → IsAccepted world (sent site part)
    → (sending world site part held).world ≡ run world (option_to_list (sent_step world site part held))
sending_run world site part held free = search rules

there_run : (world : World) (site : ℕ) (action : Action) → HasSite world site → IsCoherent world → (action_effect world site action).world ≡ run world (option_to_list (action_step world site action))
there_run world site action there coherent = search (rules, sending_run, all_free, part_free)

effect_run : (world : World) (site : ℕ) (action : Action) → IsCoherent world → (command_effect world (sites_command site action)).world ≡ run world (option_to_list (action_step world site action))
effect_run world site action coherent = search (rules, there_run, false≢true)

form_run : (number : ℕ) (world : World) (command : Option Command) → IsCoherent world → (form_effect number world command).world ≡ run world (option_to_list (option_and_then (command_step world) command))
form_run number world command coherent = search (rules, effect_run)

pub line_run : (number : ℕ) (world : World) (words : List (List ℕ)) → IsCoherent world → (line_outcome number world words).world ≡ run world (line_steps world words)
line_run number world words coherent = tested (is_skipped words) refl
  where
    steps : Bool → List Step
    steps b = cond b [] (option_to_list (option_and_then (command_step world) (command_of (events_of world.source) words)))

    tested : (b : Bool) → is_skipped words ≡ b → (line_outcome number world words).world ≡ run world (line_steps world words)
    tested true e = ap (λ (o : Outcome). o.world) (line_outcome-skipped number world words e) ∙ ap (λ b. run world (steps b)) (sym e)
    tested false e =
        ap (λ (o : Outcome). o.world) (line_outcome-run number world words e)
        ∙ (ap (λ (f : CommandEffect). f.world) (sym (line_effect-is _ world words _ refl))
        ∙ (form_run number world (command_of (events_of world.source) words) coherent ∙ ap (λ b. run world (steps b)) (sym e)))

pub lines_run : (number : ℕ) (world : World) (lines : List (List ℕ)) → IsCoherent world → (lines_outcome number world lines).world ≡ run world (steps_of_lines world lines)
unfolding lines_outcome steps_of_lines
lines_run number world [] coherent = refl
lines_run number world (line ∷ lines) coherent =
    let first = (line_outcome number world (words_of line)).world in
    let steps = line_steps world (words_of line) in
    let one = line_run number world (words_of line) coherent in
    search (rules, coherent_run, fold-append, (lines_run (number + 1) first lines (subst IsCoherent (sym one) (coherent_run world steps coherent))))

-- ---- the output at a line
lines_split : (number : ℕ) (world : World) (before rest : List (List ℕ))
    → (lines_outcome number world (before ++ rest)).replies
    ≡ (lines_outcome number world before).replies ++ (lines_outcome (number + length before) (lines_outcome number world before).world rest).replies
unfolding lines_outcome
lines_split number world [] rest = search rules
lines_split number world (line ∷ before) rest =
    let first = line_outcome number world (words_of line) in
    search (rules, append_assoc, (lines_split (number + 1) first.world before rest))

-- the output of replies and others falls into both outputs
outputs_split : (first later : List CommandReply) (text : List ℕ) → IsOutput (first ++ later) text → (a : List ℕ) × (b : List ℕ) × IsOutput first a × IsOutput later b × (text ≡ a ++ b)
outputs_split [] later text all = ([], text, refl, all, refl)
outputs_split (reply ∷ first) later text all =
    let rest = outputs_split first later all.1 all.3 in
    (all.0 ++ rest.0, rest.1, (all.0, rest.0, all.2, rest.2, refl), rest.3, all.4 ∙ (ap (λ (l : List ℕ). all.0 ++ l) rest.4 ∙ sym (append_assoc all.0 rest.0 rest.1)))

-- a script, where its heading is none that is refused
script_started : (script : List ℕ) (start : Start) → heading_of (last_line script) (lines_of script) ≡ Ok start
    → script_outcome script ≡ lines_outcome start.number (opening_world start.source start.sites) start.lines
script_started script start heading = sym (script_outcome-is _ _ (sym heading))

pub script_run : (script : List ℕ) (start : Start) → heading_of (last_line script) (lines_of script) ≡ Ok start
    → (script_outcome script).world ≡ run (opening_world start.source start.sites) (steps_of_lines (opening_world start.source start.sites) start.lines)
script_run script start heading =
    cc (script_started script start heading, lines_run start.number (opening_world start.source start.sites) start.lines (coherent_at_first _ _))

pub world_run : (script : List ℕ) (at : LineOf script) → world_at at ≡ run (first_world at) (steps_before at)
world_run script at = simp (lines_run, coherent_at_first)

pub prints : (script output : List ℕ) (at : LineOf script) → IsOutput (script_outcome script).replies output → (text : List ℕ) × PrintsAt at output text
unfolding lines_outcome
prints script output at all =
    let here = at.start.number + length at.before in
    let parts : (script_outcome script).replies ≡ (lines_outcome at.start.number (first_world at) at.before).replies
    ++ ((line_outcome here (world_at at) (words_of at.line)).replies ++ (lines_outcome (here + 1) (line_outcome here (world_at at) (words_of at.line)).world at.behind).replies) =
    ap (λ (o : Outcome). o.replies) (script_started _ _ at.heading)
    ∙ (ap (λ (l : List (List ℕ)). (lines_outcome at.start.number (first_world at) l).replies) at.lines
    ∙ lines_split _ _ at.before (at.line ∷ at.behind)) in
    let two = outputs_split _ _ _ (subst (λ (l : List CommandReply). IsOutput l output) parts all) in
    let three = outputs_split _ _ two.1 two.3 in
    (three.0, record { first = two.0; last = three.1; before = two.2; here = three.2; behind = three.3; whole = two.4 ∙ ap (λ (l : List ℕ). two.0 ++ l) three.4 })

-- ---- what a command prints at a line
stays_there : (script : List ℕ) (at : LineOf script) (site : ℕ) → HasSite (first_world at) site → HasSite (world_at at) site
stays_there script at site there = search (rules, world_run, run_stays)

source_at : (script : List ℕ) (at : LineOf script) → (world_at at).source ≡ at.start.source
source_at script at = simp (world_run, run_keeps)

replies_at : (script : List ℕ) (at : LineOf script) (site : ℕ) (action : Action) → is_skipped (words_of at.line) ≡ false
    → command_of (events_of at.start.source) (words_of at.line) ≡ Some (sites_command site action) → HasSite (first_world at) site
    → (line_outcome (at.start.number + length at.before) (world_at at) (words_of at.line)).replies ≡ (action_effect (world_at at) site action).reply ∷ []
replies_at script at site action kept is there =
    let number = at.start.number + length at.before in
    let world = world_at at in
    let command : Some (sites_command site action) ≡ command_of (events_of world.source) (words_of at.line) =
    sym (ap (λ (s : PlanSource). command_of (events_of s) (words_of at.line)) (source_at _ at) ∙ is) in
    ap (λ (o : Outcome). o.replies) (line_outcome-run _ world _ kept)
    ∙ (ap (λ (e : CommandEffect). e.reply ∷ []) (sym (line_effect-is _ world _ _ command))
    ∙ ap (λ (e : CommandEffect). e.reply ∷ []) (sym (there_effect world site _ (stays_there script at site there))))

-- the output of one reply is its text
one_reply : (replies : List CommandReply) (reply : CommandReply) (text : List ℕ) → replies ≡ reply ∷ [] → IsOutput replies text → IsReplyText reply text
one_reply replies reply text is all = let one = subst (λ (l : List CommandReply). IsOutput l text) is all in search rules

-- ---- what is said to a query at a line
-- nothing refuses the query: what is printed answers it
answers_at : (script output text : List ℕ) (at : LineOf script) (site : ℕ) (asked : Query) → QueriesSite at site asked
    → IsQueryRefusal asked (holding_state at.start.source (content_at (world_at at) site)) None → PrintsAt at output text
    → IsSaid asked (holding_state at.start.source (content_at (world_at at) site)) text
answers_at script output text at site asked asks accepted printed =
    let state = content_at (world_at at) site in
    by (one_reply _ _ text
    (replies_at script at site (query (Ok asked)) asks.kept asks.command asks.there ∙ ap (λ (s : PlanSource). told s state asked ∷ []) (source_at script at))
    printed.here)
  where
    by : IsReplyText (told at.start.source (content_at (world_at at) site) asked) text → IsSaid asked (holding_state at.start.source (content_at (world_at at) site)) text
    by (inl answer) = answer.1
    by (inr declines) =
        absurd (none-some _ (one_refusal asked (holding_state at.start.source (content_at (world_at at) site)) None (Some (Refused declines.0)) accepted declines.1))

-- ---- the report at a line
pub reports : (script output text : List ℕ) (at : LineOf script) (site : ℕ) → ReportsSite at site → PrintsAt at output text → IsReport at.start.source (content_at (world_at at) site) text
reports script output text at site says printed = answers_at _ _ text at site _ says refl printed

-- what the site holds is the union of what it took
pub unions : ((source : PlanSource) (sites : ℕ) (steps : List Step) (site : ℕ) → HasSite (opening_world source sites) site
    → (item : Item) → HasItem (content_at (run (opening_world source sites) steps) site) item ↔ TookAt (opening_world source sites) steps site item)
    → (script : List ℕ) (at : LineOf script) (site : ℕ) → ReportsSite at site → (item : Item) → HasItem (content_at (world_at at) site) item ↔ TookAt (first_world at) (steps_before at) site item
unions law script at site says item =
    subst (λ (w : World). HasItem (content_at w site) item ↔ TookAt (first_world at) (steps_before at) site item) (sym (world_run script at))
    (law at.start.source at.start.sites (steps_before at) site says.there item)

-- where what is printed at a line is what a relation says of what the site holds, and says once of sites that took the same, they print the same
pub print_same : (Asks : (script : List ℕ) → LineOf script → ℕ → Type 0) (Took : World → List Step → ℕ → World → List Step → ℕ → Type 0) (Says : PlanSource → Content → List ℕ → Type 0)
    → ((script : List ℕ) (at : LineOf script) (site : ℕ) → Asks script at site → HasSite (first_world at) site)
    → ((script output text : List ℕ) (at : LineOf script) (site : ℕ) → Asks script at site → PrintsAt at output text → Says at.start.source (content_at (world_at at) site) text)
    → ((source : PlanSource) (sites others : ℕ) (ours theirs : List Step) (site other : ℕ) → HasSite (opening_world source sites) site → HasSite (opening_world source others) other
    → Took (opening_world source sites) ours site (opening_world source others) theirs other → (text last : List ℕ)
    → Says source (content_at (run (opening_world source sites) ours) site) text → Says source (content_at (run (opening_world source others) theirs) other) last → text ≡ last)
    → PrintSame Asks Took
print_same Asks Took Says has says once script other output last text last_text at there site others one two plan same p q =
    subst (λ (s : PlanSource). HasSite (opening_world s there.start.sites) others
    → Took (first_world at) (steps_before at) site (opening_world s there.start.sites) (steps_before there) others
    → Says s (content_at (run (opening_world s there.start.sites) (steps_before there)) others) last_text → text ≡ last_text) plan
    (λ here took said.
    once at.start.source at.start.sites there.start.sites (steps_before at) (steps_before there) site others (has script at site one) here took text last_text
    (subst (λ (w : World). Says at.start.source (content_at w site) text) (world_run script at) (says script output text at site one p)) said)
    (has other there others two) same
    (subst (λ (w : World). Says there.start.source (content_at w others) last_text) (world_run other there) (says other last last_text there others two q))

-- ---- the answer to a question at a line, and what `ready` prints there
pub answers : (script output text : List ℕ) (at : LineOf script) (site : ℕ) (question : Question) → AsksSite at site question → PrintsAt at output text
    → IsAnswer at.start.source (content_at (world_at at) site) question text
answers script output text at site question asks printed = answers_at _ _ text at site _ asks.0 (inr (inr (asks.1, asks.2, refl))) printed

pub ready_said : ((source : PlanSource) (state : Content) → done_or_not_chosen every_event source state ≡ done_events source state)
    → (script output text : List ℕ) (at : LineOf script) (site : ℕ) (now : ℤ) → AsksReady at site now → PrintsAt at output text
    → IsReadyText at.start.source (content_at (world_at at) site) now text
ready_said all script output text at site now asks printed =
    let state = content_at (world_at at) site in
    subst (λ (done : List Bool). IsReadyWith (all_bounds at.start.source state) done now text) (all at.start.source state)
    (answers_at _ _ text at site _ asks (inr (refl, refl)) printed)
