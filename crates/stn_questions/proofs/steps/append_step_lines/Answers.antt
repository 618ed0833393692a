use Rattle.std.proofs.{Common.{◌<◌, length, arith}, lemmas.Result.err_from_is_err_and}
use Rattle.stn_lift.specs.Plan.Views.{planned_step}
use Rattle.stn_questions.proofs.Listing.{steps_grown}
use Rattle.stn_questions.proofs.steps.append_step_lines.Goals as goal

pub loop-before-preserved : goal.loop-before-preserved
loop-before-preserved g c =
    let place = c.loop-before.before in
    let there : place < length c.args.steps.now = omega arith in
    steps_grown planned_step c.args.steps.now c.args.durations.now place c.index-steps-before.result c.index-durations-before.result c.lo-duration.result
    c.args.out.now.items c.loop-before.out.items c.append_step_line.new.out.items
    there c.index-steps-before.is (omega arith) c.index-durations-before.is c.lo-duration.ensures.value c.loop-before.invariant c.in_ok-append_step_line.ensures

pub returns-in_err-append_step_line : goal.returns-in_err-append_step_line
returns-in_err-append_step_line g c = let p = err_from_is_err_and c.from_residual.result c.from_residual.ensures.1 in rw (p.1) tt
