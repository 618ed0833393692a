use Rattle.stn_effects.proofs.Endings.{makes_of}
use Rattle.stn_logs.specs.Commands.{seen_outcome, IsGuarded, IsUnguarded}
use Rattle.stn_logs.proofs.changes.make_update.Goals as goal

pub returns-in-Merge : goal.returns-in-Merge
returns-in-Merge g c = rw c.in-Merge.is c.merge_log.ensures

pub returns-in-Guard : goal.returns-in-Guard
returns-in-Guard g c =
    let held = c.args.plan.now in
    let owned = c.in-Guard.owned.items in
    rw c.in-Guard.is (makes_of g.S.Store.fails (seen_outcome c.guard_plan.new.plan) (IsGuarded owned held)
    (IsUnguarded owned held) c.guard_plan.result _ (rw c.deref.ensures.value at c.guard_plan.ensures))
