use Rattle.std.proofs.{Common.rules, lemmas.Option.{MatchOption-at_some, MatchOption-at_none}}
use Rattle.stn_net.specs.Schedule.{HasSchedule}
use Rattle.stn_lift.specs.PlanSource.{base_bounds}
use Rattle.stn_repairs.{specs.Repairs.{others, IsRepair}, proofs.{Listing.named_at, Found.{repairs_pass, repairs_grow}, repairs.repairs_on.Goals.{in-Some+in_ok-push, in_default}}}
use Rattle.stn_repairs.proofs.repairs.repairs_on.Goals as goal

pub repair_by-requires-clause-bound_named : goal.repair_by-requires-clause-bound_named
repair_by-requires-clause-bound_named g c = search (rules, named_at)

pub loop-id-preserved : goal.loop-id-preserved
loop-id-preserved g c =
    let base = base_bounds c.args.plan.now.source in
    let live = c.args.live.now in
    let entry = c.loop-id-item.result in
    elim c.match-branch-2.branch [
      | in-Some+in_ok-push w ↦ rw (w.repairs-is, w.in_ok-push.ensures.items)
          (repairs_grow base live c.loop-id.id-index entry c.loop-id-test.true c.loop-id-item.is c.loop-id.repairs.items w.in-Some.repair c.loop-id.invariant
          (MatchOption-at_some (¬ HasSchedule (others base live entry.0)) (λ repair. IsRepair (others base live entry.0) entry.0 entry.1.bound repair) w.in-Some.repair w.in-Some.is c.in_ok-repair.ensures))
      | in_default w ↦ rw w.repairs-is
          (repairs_pass base live c.loop-id.id-index entry c.loop-id-test.true c.loop-id-item.is c.loop-id.repairs.items c.loop-id.invariant
          (MatchOption-at_none (¬ HasSchedule (others base live entry.0)) (λ repair. IsRepair (others base live entry.0) entry.0 entry.1.bound repair) w.in_default.is c.in_ok-repair.ensures))
    ]
