use Rattle.std.proofs.Common.{rules}
use Rattle.stn_loosen.proofs.span.Span.bound.Goals as goal

pub returns-clause-found : goal.returns-clause-found
returns-clause-found c = search rules
