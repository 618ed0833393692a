use Rattle.std.proofs.Common.{sym, ap, ◌∙◌}
use Rattle.stn_lift.specs.PlanSource.{steps_of}
use Rattle.stn_reasons.proofs.reason.RefusedCommand.steps_in.Goals as goal

pub returns-in-Ok : goal.returns-in-Ok
returns-in-Ok g c = (c.in-Ok.plan, c.in-Ok.ensures.opened, sym (c.steps.ensures.value ∙ ap steps_of c.base.ensures))
