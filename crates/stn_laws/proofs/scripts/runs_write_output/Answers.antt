use Rattle.stn_laws.proofs.scripts.Runs.{done, ends, part, used}
use Rattle.stn_laws.proofs.scripts.runs_write_output.Goals as goal

pub returns : goal.returns
returns g = record { done = done; ends = ends; part = part; used = used }
