use Rattle.std.proofs.Common.{rules}
use Rattle.stn_site.proofs.own.StepRange.has.Goals as goal

pub returns-then-self-step : goal.returns-then-self-step
returns-then-self-step c = search rules
