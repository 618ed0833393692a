-- Each cause for which a command is declined is a refusal, and never a fault of a device or of memory.
use Rattle.std.{proofs.{Common.{rules, ℕ, Bool, true, false, cond, List, [], ◌∷◌, length, Option, Some, None, IfSome, IfErr, arith}, lemmas.Grind.common_steps}, specs.{Option.option_map, Prelude.{◌==◌, option_and_then}}}
use Rattle.stn_refusal.specs.declared.failure.Failure.{Failure, TheVariants.{Refused, Failed}}
use Rattle.stn_text.specs.Numbers.{number_of}
use Rattle.stn_questions.specs.declared.words.Outlook.{Outlook}
use Rattle.stn_world.specs.{World.{World}, Steps.{Step, step_refusal, send_refusal}}
use Rattle.stn_command.specs.Words.{times_read}
use Rattle.stn_exec.specs.Command.{Action, change, query, sites_command, add_of, amend_of, done_of, send_of, check_read, check_of, why_of, outlook_or_alone, action_of, command_of}

-- the failure is a refusal
abbrev pub HasRefusal : Failure → Type 0
HasRefusal (Refused refusal) = Unit {0}
HasRefusal (Failed fault) = ⊥

-- ---- a world's causes
pub step_fits : (world : World) (step : Step) → IfSome (step_refusal world step) HasRefusal
step_fits world step = search rules

pub send_fits : (world : World) (site : ℕ) (held : Bool) → IfSome (send_refusal world site held) HasRefusal
send_fits world site held = grind (arith)

times_fits : (words : List (List ℕ)) → IfErr (times_read words) HasRefusal
times_fits [] = tt
times_fits (word ∷ words) = grind (arith, times_fits words)

-- ---- the forms of commands
-- what the action asks for could be read, or is refused
abbrev pub IsReadOrRefused : Action → Type 0
IsReadOrRefused (change asked) = IfErr asked HasRefusal
IsReadOrRefused (query asked) = IfErr asked HasRefusal
IsReadOrRefused other = Unit {0}

add_fits : (words : List (List ℕ)) → IfSome (add_of words) IsReadOrRefused
add_fits words = grind (arith)

amend_fits : (words : List (List ℕ)) → IfSome (amend_of words) IsReadOrRefused
amend_fits words = grind (arith)

done_fits : (words : List (List ℕ)) → IfSome (done_of words) IsReadOrRefused
done_fits words = grind (arith)

items_fits : (words : List (List ℕ)) → IfSome (send_of words) IsReadOrRefused
items_fits words = grind (arith)

check_fits : (events : ℕ) (words : List (List ℕ)) → IfSome (check_of events words) IsReadOrRefused
check_fits events words = by (length words == events)
  where
    by : (t : Bool) → IfSome (cond t (Some (query (check_read words))) None) IsReadOrRefused
    by true = grind (arith, common_steps, times_fits words)
    by false = tt

why_fits : (words : List (List ℕ)) → IfSome (why_of words) IsReadOrRefused
why_fits words = grind (arith)

outlook_fits : (outlook : Option Outlook) (name : List ℕ) (words : List (List ℕ)) → IfSome (outlook_or_alone outlook name words) IsReadOrRefused
outlook_fits outlook name words = grind (arith)

choice_fits : (test : Bool) (first second : Option Action) → IfSome first IsReadOrRefused → IfSome second IsReadOrRefused → IfSome (cond test first second) IsReadOrRefused
choice_fits test first second one other = search rules

action_fits : (events : ℕ) (name : List ℕ) (words : List (List ℕ)) → IfSome (action_of events name words) IsReadOrRefused
action_fits events name words = search (rules, choice_fits, add_fits, amend_fits, done_fits, items_fits, check_fits, why_fits, outlook_fits)

pub command_fits : (events : ℕ) (words : List (List ℕ)) → IfSome (command_of events words) (λ command. IsReadOrRefused command.action)
command_fits events [] = tt
command_fits events (site ∷ []) = tt
command_fits events (site ∷ (name ∷ words)) = by (number_of site) (action_of events name words) (action_fits events name words)
  where
    by : (number : Option ℕ) (action : Option Action) → IfSome action IsReadOrRefused
        → IfSome (option_and_then (λ one. option_map (sites_command one) action) number) (λ command. IsReadOrRefused command.action)
    by None action one = tt
    by (Some number) None one = tt
    by (Some number) (Some action) one = one
