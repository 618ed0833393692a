-- Two texts or a number of steps have a base, or each fault of theirs is printed as a refusal.
use Rattle.std.proofs.Common.{rules, ℕ, ◌+◌, List, [], ◌∷◌, Option, Result, IfErr, arith}
use Rattle.stn_text.specs.Faults.{◌>>=◌}
use Rattle.stn_pddl.{specs.{declared.{tree.scan.TreeFault.TreeFault, fault.DomainFault.DomainFault}, Tree.Trees.Trees, Failures.domain_failure, Schemas.ActionSchema, Domains.{root, domain_of_tree, domain_of_bytes, domain_of}}, proofs.Forms.all_parts_given}
use Rattle.stn_lift.specs.{declared.{plan.{bytes.Mark.TheVariants.Close, fault.PlanFault.PlanFault}, fault.{LiftFault.LiftFault, BaseFault.BaseFault}}, Plan.{Failures.plan_failure, Tokens.{Lexeme, Word, Sign}, Steps.{PlannedStep, Form, args_of, duration_form, form_of, time_at, duration_of, step_at, timed_step, step_of, steps_of, limited, plan_of}}, Failures.{base_failure, lift_failure}, Activities.{Activity, with_action, with_found, activity_of, activities}, PlanSource.{PlanSource, of_lift, steps_in, lifted, source_with, base_of}}
use Rattle.stn_laws.proofs.scripts.Causes.{HasRefusal}

bind_fits : {X Y F : Type 0} (Fits : F → Type 0) (first : Result X F) (rest : X → Result Y F) → IfErr first Fits → ((value : X) → IfErr (rest value) Fits)
    → IfErr (first >>= rest) Fits
bind_fits Fits first rest one others = search rules

-- ---- a domain
abbrev OfDomain : DomainFault → Type 0
OfDomain fault = HasRefusal (domain_failure fault)

root_fits : (line : ℕ) (children : Trees) → IfErr (root line children) OfDomain
unfolding root
root_fits line children = grind (arith, all_parts_given)

bytes_fit : (read : Result Trees TreeFault) → IfErr (domain_of_bytes read) OfDomain
unfolding domain_of_tree
bytes_fit read = grind (arith, root_fits)

domain_fits : (text : List ℕ) → IfErr (domain_of text) OfDomain
unfolding domain_of
domain_fits text = grind (arith, bytes_fit)

-- ---- a plan
abbrev OfPlan : PlanFault → Type 0
OfPlan fault = HasRefusal (plan_failure fault)

args_fit : (line : ℕ) (tokens : List Lexeme) → IfErr (args_of line tokens) OfPlan
unfolding args_of
args_fit line (Word one ∷ tokens) = grind (arith, args_fit line tokens)
args_fit line (Sign Close ∷ tokens) = tt
args_fit line _ = tt

bracket_fits : (line : ℕ) (tokens : List Lexeme) → IfErr (duration_form line tokens) OfPlan
unfolding duration_form
bracket_fits line tokens = grind (arith)

form_fits : (line : ℕ) (tokens : List Lexeme) → IfErr (form_of line tokens) OfPlan
unfolding form_of
form_fits line tokens = search (rules, bind_fits, args_fit, bracket_fits)

timed_fits : (line : ℕ) (form : Form) → IfErr (timed_step line form) OfPlan
unfolding timed_step step_at duration_of time_at
timed_fits line form = grind (arith)

step_fits : (line : ℕ) (tokens : List Lexeme) → IfErr (step_of line tokens) OfPlan
unfolding step_of
step_fits line tokens = search (rules, bind_fits, form_fits, timed_fits)

steps_fit : (lines : List (ℕ × List ℕ)) → IfErr (steps_of lines) OfPlan
unfolding steps_of
steps_fit [] = tt
steps_fit (line ∷ lines) = search (rules, bind_fits, step_fits, (steps_fit lines))

plan_fits : (text : List ℕ) → IfErr (plan_of text) OfPlan
unfolding plan_of limited
plan_fits text = grind (arith, steps_fit)

-- ---- the steps in a domain
abbrev OfLift : LiftFault → Type 0
OfLift fault = HasRefusal (lift_failure fault)

found_fits : (number : ℕ) (step : PlannedStep) (found : Option ActionSchema) → IfErr (with_found number step found) OfLift
unfolding with_action
found_fits number step found = grind (arith)

all_fit : (actions : List ActionSchema) (before : ℕ) (steps : List PlannedStep) → IfErr (activities actions before steps) OfLift
unfolding activities activity_of
all_fit actions before [] = tt
all_fit actions before (step ∷ steps) = search (rules, bind_fits, found_fits, (all_fit actions (before + 1) steps))

-- ---- sources
abbrev pub OfBase : BaseFault → Type 0
OfBase fault = HasRefusal (base_failure fault)

lift_fits : (source : PlanSource) (found : Result (List Activity) LiftFault) → IfErr found OfLift → IfErr (source_with source (of_lift found)) OfBase
lift_fits source found one = grind (arith)

texts_fit : (source : PlanSource) (actions : Result (List ActionSchema) DomainFault) (planned : Result (List PlannedStep) PlanFault)
    → IfErr actions OfDomain → IfErr planned OfPlan → IfErr (source_with source (steps_in actions planned)) OfBase
texts_fit source actions planned one other = grind (arith, lift_fits, all_fit)

pub base_fits : (source : PlanSource) → IfErr (base_of source) OfBase
unfolding lifted
base_fits source = grind (arith, texts_fit, domain_fits, plan_fits)
