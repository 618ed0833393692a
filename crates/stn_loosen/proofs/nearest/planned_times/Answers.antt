use Rattle.std.proofs.{Common.{◌≡◌, ◌+◌, ◌<◌, arith}, lemmas.Grind.common_steps}
use Rattle.stn_lift.specs.PlanSource.{events_of}
use Rattle.stn_loosen.proofs.Planned.{same_times}
use Rattle.stn_loosen.proofs.nearest.planned_times.Goals as goal

pub returns : goal.returns
returns g c =
    let all : c.loop-number.number ≡ events_of c.args.base.now + 1 = omega arith in
    same_times c.args.base.now c.loop-number.times.items (omega arith)
    (λ event below. let here : event < c.loop-number.number = omega arith in c.loop-number.invariant.timed event here)

pub loop-number-preserved : goal.loop-number-preserved
loop-number-preserved g c = grind (arith, common_steps)
