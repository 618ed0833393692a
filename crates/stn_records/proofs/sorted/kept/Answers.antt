use Rattle.std.proofs.{Common.◌∙◌, lemmas.Result.IfOk-weaker}
use Rattle.stn_records.proofs.Places.{same_wanted}
use Rattle.stn_records.proofs.sorted.kept.Goals as goal

-- the sort keeps the ids
pub returns : goal.returns
returns g c = IfOk-weaker c.among.result _ _ (λ all is. is ∙ same_wanted c.args.entries.now c.args.wanted.now c.in_ok-ids.ids.items c.sort_unstable.new.self.items c.deref.result.now c.in_ok-ids.ensures.items c.sort_unstable.ensures.permutation c.deref.ensures.value) c.among.ensures
