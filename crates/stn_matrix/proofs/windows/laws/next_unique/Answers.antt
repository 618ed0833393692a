use Rattle.stn_net.proofs.OneAnswer.{one_next}
use Rattle.stn_matrix.proofs.windows.laws.next_unique.Goals as goal

pub returns : goal.returns
returns c = one_next
