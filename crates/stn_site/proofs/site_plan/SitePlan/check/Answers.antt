use Rattle.std.{proofs.Common.{◌≡◌, refl}, specs.Rc.rc_value}
use Rattle.stn_net.specs.Schedule.{IsSchedule, times_of}
use Rattle.stn_lift.specs.PlanSource.{base_bounds}
use Rattle.stn_site.proofs.{Broken.{broken_in_plan, broken_in_records, none_broken}, site_plan.SitePlan.check.{Given.Over, Goals.After-bounds}}
use Rattle.stn_site.proofs.site_plan.SitePlan.check.Goals as goal

bounds_are : (g : Over) (c : After-bounds g) → c.bounds.result.now ≡ base_bounds (rc_value c.self.inside.base)
bounds_are g c = cc

pub returns-in-Some : goal.returns-in-Some
returns-in-Some g c =
    let is = bounds_are g (goal.at.returns-in-Some g c).After-bounds in
    let told = broken_in_plan (times_of c.args.times.now) (rc_value c.self.inside.base) c.self.inside.records c.in-Some.place (rw is at c.in-Some.ensures.within) (rw is at c.in-Some.ensures.broken) (rw is at c.in-Some.ensures.earlier) in
    rw (← c.self.view_is) (record { first = told.0; schedule = told.1 })

pub returns-in-Some-first_broken_record : goal.returns-in-Some-first_broken_record
returns-in-Some-first_broken_record g c =
    let schedule : IsSchedule c.bounds.result.now (times_of c.args.times.now) = c.in_default.ensures.none.0 refl in
    let is = bounds_are g (goal.at.returns-in-Some-first_broken_record g c).After-bounds in
    let told = broken_in_records (times_of c.args.times.now) (rc_value c.self.inside.base) c.self.inside.records (rw is at schedule) c.in-Some-first_broken_record.id c.in-Some-first_broken_record.ensures in
    rw (← c.self.view_is) (record { first = told.0; schedule = told.1 })

pub returns-in-None : goal.returns-in-None
returns-in-None g c =
    let schedule : IsSchedule c.bounds.result.now (times_of c.args.times.now) = c.in_default.ensures.none.0 refl in
    let is = bounds_are g (goal.at.returns-in-None g c).After-bounds in
    let told = none_broken (times_of c.args.times.now) (rc_value c.self.inside.base) c.self.inside.records (rw is at schedule) c.in-None.ensures in
    rw (← c.self.view_is) (record { first = told.0; schedule = told.1 })
