-- What each command on a log does, step by step, and the text that it answers. Its refusals come in the order of its steps.
use Rattle.std.specs.Prelude.{◌≡◌, ◌⊎◌, ℕ, Bool, true, false, List, [], ◌∷◌, ◌++◌, codes, Option, Some, None, option_map, Result, Ok, Err}
use Rattle.stn_effects.specs.Effects.{Effect, Then, Makes, Settles, Gives, failing}
use Rattle.stn_net.specs.Schedule.{HasSchedule}
use Rattle.stn_lift.specs.{PlanSource.{PlanSource, bare, files, base_of, steps_of}, Failures.base_failure}
use Rattle.stn_records.specs.{Content.{Content, no_content}, Id.SiteCounter}
use Rattle.stn_site.specs.{Bounds.all_bounds, Calls.{Accepted, Leaves, took}, Change.{change_call, change_refusal}, Failures.replica_failure, Held.Held, declared.{faults.ReplicaFault.ReplicaFault, change.Change.Change as ChangeAsked, own.OwnedSteps.OwnedSteps}}
use Rattle.stn_loosen.specs.Asked.{IsLoosened, IsLooseningRefusal}
use Rattle.stn_command.specs.{Change.{made_by, made_text}, Query.Query, Guarding.guard_text, Named.{IsSaidBy, IsRefusedBy}, Words.no_such_word}
use Rattle.stn_guard.specs.Adding.{AddsGuard, IsGuardRefusal}
use Rattle.stn_store.specs.{Log.log_held, Merging.IsMergeRefusal, Steps.{Entries, FindsFree, FindsText, LoadsLog, Saves, SavesNew}}
use Rattle.stn_asked.specs.{Words.{Update, change, merge, guard, slack_read, update_read, question_read}, declared.words.RefusedWord.RefusedWord}
use Rattle.stn_logs.specs.declared.changes.Outcome.{Outcome}
use Rattle.stn_logs.specs.declared.changes.Outcome.TheVariants as came
use Rattle.stn_line.specs.{Explanations.Explained.{IsExplained, NamesNothing}, declared.words.{SiteLog.SiteLog, NameWords.NameWords, NewLog.TheVariants.{Bare, Init, Loosen}, Line.{Line, TheVariants.{Run, Make, Change, Ask, Explain, Shell, Serve, Send}}}}
use Rattle.stn_refusal.specs.declared.failure.{Failure.Failure, Fault.Fault}

-- ---- a new log
-- a log of this is saved under a name that is free
abbrev pub SavesMade : (Fault → Type 0) → List ℕ → PlanSource → Content → Effect Entries (List ℕ)
SavesMade Fails name source state =
    Then (SavesNew Fails name (record { source = source; state = state })) (λ _.
    Gives (codes "made" ++ 10 ∷ []))

-- the log of a source that has a base; it says nothing else
abbrev pub MakesLog : (Fault → Type 0) → List ℕ → PlanSource → Effect Entries (List ℕ)
MakesLog Fails name source =
    Then (Settles Fails (failing base_failure (base_of source))) (λ made.
    SavesMade Fails name made no_content)

-- the source of the texts of a domain and of a plan
abbrev pub FindsSource : (Fault → Type 0) → List ℕ → List ℕ → Effect Entries PlanSource
FindsSource Fails domain plan =
    Then (FindsText Fails domain) (λ actions.
    Then (FindsText Fails plan) (λ steps.
    Gives (files actions steps)))

-- ---- a log that is there
-- what an update makes: what the site holds then, which is to be saved, and the text that says so; or a text alone, where nothing is
pub data Updated : Type 0 where
  updated : (held : Held) (text : List ℕ) → Updated
  unchanged : (text : List ℕ) → Updated

-- the same, as the code has it beside the site's copy
abbrev pub seen_outcome : {A : Type 0} → Held → Outcome A → Updated
seen_outcome held (came.Updated text) = updated held text.items
seen_outcome held (came.Unchanged text) = unchanged text.items

-- a call was made on what the site held, and this text says so
abbrev pub LeavesUpdated : Accepted → List ℕ → Held → Updated → Type 0
LeavesUpdated call text before made = (after : Held) × Leaves before call after × (made ≡ updated after text)

-- a change was made, and the line that says so
abbrev pub IsChanged : ChangeAsked → Held → Updated → Type 0
IsChanged asked before made = (id : SiteCounter) × LeavesUpdated (change_call asked id) (made_text (made_by asked id)) before made

-- all that another copy of the plan holds was taken in, and the line that says so
abbrev pub IsMerged : Held → Held → Updated → Type 0
IsMerged before theirs made = (before.source ≡ theirs.source) × LeavesUpdated (took theirs.state) (codes "merged" ++ 10 ∷ []) before made

-- the guard of what the site held was added, and the lines that name its records; where all bounds have no schedule, a line alone
pub data IsGuarded (owned : List OwnedSteps) (before : Held) (made : Updated) : Type 0 where
  guarded : (ids : List SiteCounter) (after : Held) → AddsGuard owned before ids after → made ≡ updated after (guard_text (Some ids)) → IsGuarded owned before made
  conflict : ¬ HasSchedule (all_bounds before.source before.state) → made ≡ unchanged (guard_text None) → IsGuarded owned before made

-- why a guard is not added
abbrev pub IsUnguarded : List OwnedSteps → Held → Option Failure → Type 0
IsUnguarded owned held cause = (refusal : Option ReplicaFault) × IsGuardRefusal owned held refusal × (cause ≡ option_map replica_failure refusal)

-- what a site holds is updated; of another log, all that it says by then is taken in
abbrev pub Updates : (Fault → Type 0) → Update → Held → Effect Entries Updated
Updates Fails (change asked) held = Makes Fails (IsChanged asked held) (λ cause. cause ≡ option_map replica_failure (change_refusal held asked))
Updates Fails (merge other) held =
    Then (LoadsLog Fails other held.site) (λ theirs.
    Makes Fails (IsMerged held theirs) (IsMergeRefusal held theirs))
Updates Fails (guard owned) held = Makes Fails (IsGuarded owned held) (IsUnguarded owned held)

-- what is to be saved is saved, and the text given; where nothing is, the log stays as it is
abbrev pub SavesUpdated : (Fault → Type 0) → List ℕ → Updated → Effect Entries (List ℕ)
SavesUpdated Fails name (updated held text) =
    Then (Saves Fails name (log_held held)) (λ _.
    Gives text)
SavesUpdated Fails name (unchanged text) = Gives text

abbrev pub UpdatesLog : (Fault → Type 0) → SiteLog → Update → Effect Entries (List ℕ)
UpdatesLog Fails log asked =
    Then (LoadsLog Fails log.name.now log.site) (λ held.
    Then (Updates Fails asked held) (λ made.
    SavesUpdated Fails log.name.now made))

-- steps that have names already get none from a plan's file
abbrev pub nameless : PlanSource → Result (Unit {0}) Failure
nameless (bare steps) = Ok tt
nameless (files domain plan) = Err no_such_word

-- the plan text that a plan of files has itself; a bare one has none
abbrev pub own_plan_text : PlanSource → Result (Option (List ℕ)) Failure
own_plan_text (bare steps) = Err no_such_word
own_plan_text (files domain plan) = Ok (Some plan)

-- the text of a plan whose steps name those of a site's plan, if they are to have names: that of a file, or the plan's own, but not both
abbrev pub FindsNames : (Fault → Type 0) → Option (List ℕ) → Bool → PlanSource → Effect Entries (Option (List ℕ))
FindsNames Fails None false source = Settles Fails (Ok None)
FindsNames Fails None true source = Settles Fails (own_plan_text source)
FindsNames Fails (Some plan) false source =
    Then (Settles Fails (nameless source)) (λ _.
    Then (FindsText Fails plan) (λ text.
    Gives (Some text)))
FindsNames Fails (Some plan) true source = Settles Fails (Err no_such_word)

-- a query is answered, by these names of steps
abbrev pub SaysAsked : (Fault → Type 0) → Query → NameWords → Held → Effect Entries (List ℕ)
SaysAsked Fails asked names held =
    Then (FindsNames Fails (option_map (λ plan. plan.now) names.plan) names.own held.source) (λ plan.
    Makes Fails (IsSaidBy plan asked held) (IsRefusedBy plan asked held))

abbrev pub AnswersAsked : (Fault → Type 0) → SiteLog → Query → NameWords → Effect Entries (List ℕ)
AnswersAsked Fails log asked names =
    Then (LoadsLog Fails log.name.now log.site) (λ held.
    SaysAsked Fails asked names held)

-- ---- a command
-- words are read, or the first that says nothing refuses the command
abbrev pub Reads : {X : Type 0} → (Fault → Type 0) → Result X RefusedWord → Effect Entries X
Reads Fails said = Settles Fails (failing (λ refused. refused.failure) said)

-- why nothing is explained: the word is no refusal's and no fault's
abbrev pub IsExplainRefusal : Option (List ℕ) → Option Failure → Type 0
IsExplainRefusal word cause = (NamesNothing word × (cause ≡ Some no_such_word)) ⊎ ((¬ NamesNothing word) × (cause ≡ None))

abbrev pub Explains : (Fault → Type 0) → Option (List ℕ) → Effect Entries (List ℕ)
Explains Fails word = Makes Fails (IsExplained word) (IsExplainRefusal word)

-- words are read first; `run`, `shell`, `serve` and `send` are no commands on a log
abbrev pub DoesLine : (Fault → Type 0) → Line → Effect Entries (List ℕ)
DoesLine Fails (Make log (Bare steps)) =
    Then (FindsFree Fails log.name.now) (λ _.
    MakesLog Fails log.name.now (bare steps))
DoesLine Fails (Make log (Init domain plan)) =
    Then (FindsFree Fails log.name.now) (λ _.
    Then (FindsSource Fails domain.now plan.now) (λ source.
    MakesLog Fails log.name.now source))
DoesLine Fails (Make log (Loosen domain plan early late robust)) =
    Then (Reads Fails (slack_read early late)) (λ slack.
    Then (FindsFree Fails log.name.now) (λ _.
    Then (FindsSource Fails domain.now plan.now) (λ source.
    Then (Makes Fails (IsLoosened robust source slack log.site) (IsLooseningRefusal robust source slack)) (λ state.
    SavesMade Fails log.name.now (bare (steps_of source)) state))))
DoesLine Fails (Change log words) =
    Then (Reads Fails (update_read words)) (λ asked.
    UpdatesLog Fails log asked)
DoesLine Fails (Ask log words names) =
    Then (Reads Fails (question_read log words)) (λ asked.
    AnswersAsked Fails log asked names)
DoesLine Fails (Explain word) = Explains Fails (option_map (λ one. one.now) word)
DoesLine Fails Run = Settles Fails (Err no_such_word)
DoesLine Fails (Shell log) = Settles Fails (Err no_such_word)
DoesLine Fails (Serve log address count seconds) = Settles Fails (Err no_such_word)
DoesLine Fails (Send log address seconds) = Settles Fails (Err no_such_word)
