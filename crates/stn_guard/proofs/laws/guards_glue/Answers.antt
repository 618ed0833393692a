use Rattle.stn_guard.proofs.Gluing.{glue}
use Rattle.stn_guard.proofs.laws.guards_glue.Goals as goal

pub returns : goal.returns
returns c = glue
