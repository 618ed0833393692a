use Rattle.std.proofs.Common.{◌≡◌, drop}
use Rattle.std.specs.FinMap as fin
use Rattle.stn_records.specs.Content.{with_ids}
use Rattle.stn_records.proofs.state.set_of.Given as goal

abbrev pub invariant-loop-id : goal.invariant-loop-id
invariant-loop-id g l = with_ids l.set (drop l.id-index l.ids) ≡ with_ids fin.empty l.ids
