use Rattle.stn_laws.proofs.loosened.OneLoosened.{many_not_few}
use Rattle.stn_laws.proofs.loosened.too_many_are_not_few.Goals as goal

pub returns : goal.returns
returns c = many_not_few
