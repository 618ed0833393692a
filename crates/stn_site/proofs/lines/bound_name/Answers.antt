use Rattle.std.proofs.Common.{rules}
use Rattle.stn_site.proofs.lines.bound_name.Goals as goal

pub returns-then-place-base : goal.returns-then-place-base
returns-then-place-base c = search rules
