use Rattle.std.proofs.Common.{◌≡◌, ◌++◌, map, take}
use Rattle.stn_lift.specs.Plan.Views.{planned_step}
use Rattle.stn_questions.specs.Steps.{name_lines}
use Rattle.stn_questions.proofs.steps.append_name_lines.Given as goal

abbrev pub invariant-loop-before : goal.invariant-loop-before
invariant-loop-before g l = l.out.items ≡ l.initial.out.items ++ name_lines 0 (map planned_step (take l.before l.steps))
