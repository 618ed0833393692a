use Rattle.stn_matrix.proofs.SomeRehearsal.{rehearsed_or_overdue}
use Rattle.stn_matrix.proofs.windows.laws.rehearsed_or_overdue.Goals as goal

pub returns : goal.returns
returns c = λ bounds table exact done one_each now. rehearsed_or_overdue bounds table done now (record { exact = exact; one_each = one_each })
