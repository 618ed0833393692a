use Rattle.stn_line.specs.Commands as spec
use Rattle.stn_line.proofs.commands.stn.Goals as goal

pub returns : goal.returns
unfolding spec.stn
returns c = record { app = c.with_rows-2.ensures _ (c.in_ok-changing.ensures _ c.top.ensures.app) }
