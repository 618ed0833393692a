use Rattle.std.proofs.lemmas.Result.{IfOk-weaker}
use Rattle.stn_store.proofs.files.FileStoreStoreGlobal.has.Goals as goal

pub returns-clause-told : goal.returns-clause-told
returns-clause-told g c = rw c.unless_unread.ensures (IfOk-weaker c.are_these-same.result _ _ (λ has is. (is.0, tt, is.2)) c.are_these-same.ensures.same)
