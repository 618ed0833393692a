use Rattle.stn_matrix.proofs.SomeNext.{some_next}
use Rattle.stn_matrix.proofs.windows.laws.something_comes_next.Goals as goal

pub returns : goal.returns
returns c = λ bounds table exact done one_each now. some_next bounds table done now (record { exact = exact; one_each = one_each })
