use Rattle.std.proofs.Common.{ap, ◌∙◌}
use Rattle.stn_cause.specs.Cause.{cause_of}
use Rattle.stn_cause.proofs.cause.CauseFromError.from.Goals as goal

pub returns : goal.returns
returns c = c.of.ensures ∙ ap cause_of c.kind.ensures
