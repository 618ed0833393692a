use Rattle.std.proofs.{Common.{pos, add-one, append_assoc}, lemmas.List.get_or_read}
use Rattle.stn_lift.specs.BaseBounds.{duration_bounds}
use Rattle.stn_lift.proofs.bounds.append_durations.Goals as goal

pub loop-before-preserved : goal.loop-before-preserved
unfolding duration_bounds
loop-before-preserved g c =
    let here = get_or_read c.args.durations.now _ _ c.loop-before-test.true c.index-durations-before.is (pos 0) in
    rw (add-one, c.in_ok-push.ensures.items, c.loop-before.invariant, c.duration_bound.ensures, here, append_assoc)
