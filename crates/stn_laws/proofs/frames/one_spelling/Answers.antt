use Rattle.stn_laws.proofs.frames.Fronts.{one_spelling_lem}
use Rattle.stn_laws.proofs.frames.one_spelling.Goals as goal

pub returns : goal.returns
returns c = one_spelling_lem
