use Rattle.std.proofs.lemmas.Result.{IfOk-weaker}
use Rattle.stn_logs.proofs.Spelled.{opened_by}
use Rattle.stn_logs.proofs.keeping.Known.has_bytes_of.Goals as goal

pub returns-in-Some-clause-same : goal.returns-in-Some-clause-same
returns-in-Some-clause-same g c = IfOk-weaker c.has.result _ _ (λ has told. opened_by c.in-Some.ensures told) c.has.ensures.told
