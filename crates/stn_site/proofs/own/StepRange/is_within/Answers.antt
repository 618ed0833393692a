use Rattle.std.proofs.Common.{rules}
use Rattle.stn_site.proofs.own.StepRange.is_within.Goals as goal

pub returns-then-self-ge1 : goal.returns-then-self-ge1
returns-then-self-ge1 c = search rules
