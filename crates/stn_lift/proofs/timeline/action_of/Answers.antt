use Rattle.std.proofs.{Common.arith, lemmas.{Int.ints, Grind.common_steps}}
use Rattle.stn_pddl.specs.Views.{action_schema}
use Rattle.stn_lift.specs.Activities.{activity_of, with_action}
use Rattle.stn_lift.proofs.timeline.action_of.Goals as goal

pub returns-then-differs-clause-given : goal.returns-then-differs-clause-given
unfolding activity_of with_action action_schema
returns-then-differs-clause-given g c = grind (arith, common_steps)

pub overflow_add-get : goal.overflow_add-get
overflow_add-get g c = omega (arith, ints)

pub returns-then-get-gt-HORIZON-clause-given : goal.returns-then-get-gt-HORIZON-clause-given
unfolding activity_of with_action action_schema
returns-then-get-gt-HORIZON-clause-given g c = grind (arith, ints, common_steps)

pub returns : goal.returns
unfolding activity_of with_action action_schema
returns g c = record { given = grind (arith, ints, common_steps); arity = grind (arith, common_steps); sound = c.in-Some.ensures.sound; last = grind (arith, ints) }
