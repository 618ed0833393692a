use Rattle.std.proofs.Common.{◌≡◌, ◌++◌, pos, slice_index_or}
use Rattle.stn_lift.specs.BaseBounds.{duration_bounds}
use Rattle.stn_lift.proofs.bounds.append_durations.Given as goal

abbrev pub invariant-loop-before : goal.invariant-loop-before
invariant-loop-before g l = l.bounds.items ≡ l.fn.bounds.items ++ duration_bounds (λ before. slice_index_or l.durations before (pos 0)) l.before
