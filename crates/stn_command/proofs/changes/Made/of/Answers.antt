use Rattle.std.proofs.Common.{sym, ap}
use Rattle.stn_command.specs.Change.{made_by}
use Rattle.stn_command.proofs.changes.Made.of.Goals as goal

pub returns-in-Amend : goal.returns-in-Amend
returns-in-Amend c = ap (λ asked. made_by asked c.args.id) (sym c.in-Amend.is)
