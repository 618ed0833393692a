use Rattle.std.proofs.{Common.{◌<◌, length, map, subst, arith}, lemmas.{List.{get_or-map, length-map}, Grind.common_steps}}
use Rattle.stn_lift.specs.Plan.{Steps.IsTimely, Views.planned_step}
use Rattle.stn_lift.proofs.plan.Plan.steps.Goals as goal

pub returns-clause-timely : goal.returns-clause-timely
returns-clause-timely g c = λ k d within.
    let steps = c.self.inside.steps.items in
    let there : k < length steps = rw c.deref.ensures.value at within in
    let mapped : k < length (map planned_step steps) = rw length-map there in
    rw c.deref.ensures.value (subst IsTimely (get_or-map planned_step steps k d (planned_step d) there) (c.self.invariant.timely k (planned_step d) mapped))

pub returns-clause-few : goal.returns-clause-few
returns-clause-few g c = grind (arith, common_steps)
