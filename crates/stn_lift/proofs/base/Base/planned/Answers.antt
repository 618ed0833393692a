use Rattle.std.proofs.{Common.{◌∙◌, ◌≤◌, length, pos, sym, ap, arith}, lemmas.{List.get_or_past, Bool.Decides.nat_tests}}
use Rattle.stn_lift.specs.PlanSource.{planned_of}
use Rattle.stn_lift.proofs.base.Base.planned.Goals as goal

pub returns-in-None : goal.returns-in-None
returns-in-None g c =
    let past : length c.self.inside.planned.items ≤ c.args.event = grind (arith, nat_tests) in
    rw c.unwrap.ensures at c.new.ensures.value
    ∙ sym (get_or_past c.self.inside.planned.items c.args.event (pos 0) past) ∙ c.self.invariant.timed c.args.event ∙ ap (λ source. planned_of source c.args.event) c.self.view_is
