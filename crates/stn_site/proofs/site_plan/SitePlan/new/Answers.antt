use Rattle.std.specs.Rc.{rc_value}
use Rattle.stn_lift.specs.PlanSource.{events_of}
use Rattle.stn_site.proofs.Named.{none_named}
use Rattle.stn_site.proofs.site_plan.SitePlan.new.Goals as goal

pub invariant_of-result : goal.invariant_of-result
invariant_of-result g c = none_named (events_of (rc_value c.args.base)) c.new.result c.new.ensures
