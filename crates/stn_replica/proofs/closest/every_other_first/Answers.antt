use Rattle.std.proofs.Common.{◌∙◌}
use Rattle.stn_replica.proofs.Rows.{in_rows_next}
use Rattle.stn_replica.proofs.closest.every_other_first.Goals as goal

pub loop-bound-preserved : goal.loop-bound-preserved
loop-bound-preserved g c = record {
  long = c.append_to.ensures.long ∙ c.loop-bound.invariant.long;
  so_far = in_rows_next c.args.bounds.now c.loop-bound.rows.items c.append_to.new.rows.items c.loop-bound-test.true
      c.bound-item.is c.loop-bound.invariant.so_far c.in_ok-append_to.ensures.more;
}
