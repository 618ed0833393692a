use Rattle.stn_records.proofs.Replaced.{kept_by_nothing}
use Rattle.stn_records.proofs.state.State.new.Goals as goal

pub invariant_of-result : goal.invariant_of-result
invariant_of-result g c = kept_by_nothing c.new-2.result c.new-4.result c.new-3.result c.new-2.ensures c.new-3.ensures c.new-4.ensures
