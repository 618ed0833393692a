use Rattle.std.proofs.Common.{◌≡◌, take}
use Rattle.stn_lift.specs.PlanSource.{bare, steps_of}
use Rattle.stn_loosen.specs.Numbered.{HoldsNumbered}
use Rattle.stn_loosen.proofs.adding.plan_with.Given as goal

abbrev pub invariant-loop-bound : goal.invariant-loop-bound
invariant-loop-bound g l = record {
  site : l.plan.site ≡ l.fn.site;
  source : l.plan.source ≡ bare (steps_of l.base);
  holds : HoldsNumbered l.fn.site (take l.bound-index l.bounds) l.plan.state;
}
