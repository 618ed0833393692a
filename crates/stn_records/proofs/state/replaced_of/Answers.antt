use Rattle.std.proofs.lemmas.Result.{IfOk-weaker}
use Rattle.std.specs.FinMap as fin
use Rattle.stn_records.proofs.Replaced.{put_in_order}
use Rattle.stn_records.proofs.state.replaced_of.Goals as goal

-- the sort keeps the ids
pub returns : goal.returns
returns g c = IfOk-weaker c.union.result _ _ (λ all united. put_in_order c.args.tombstones.now c.in_ok-amended.amended all (fin.values c.args.replacements.now) c.in_ok-ids.ids.items c.sort_unstable.new.self.items c.deref.result.now c.in_ok-ids.ensures c.sort_unstable.ensures.permutation c.deref.ensures.value c.in_ok-amended.ensures united) c.union.ensures
