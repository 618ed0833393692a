-- The names so far, and then those that are left, are the names of all tokens.
use Rattle.std.proofs.Common.{◌≡◌, length}
use Rattle.stn_lift.{specs.Plan.{Steps.args_of, Views.names_of}, proofs.StepFacts.behind_names}
use Rattle.stn_lift.proofs.plan.step.read_args.Given as goal

abbrev pub invariant-loop-word : goal.invariant-loop-word
invariant-loop-word g l = behind_names (names_of l.args) (args_of l.line l.tokens) ≡ args_of l.line l.fn.tokens

abbrev pub decreases-loop-word : goal.decreases-loop-word
decreases-loop-word g l = length l.tokens
