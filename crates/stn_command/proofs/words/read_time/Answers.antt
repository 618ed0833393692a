use Rattle.std.proofs.Common.{Err, ap, ◌∙◌}
use Rattle.stn_command.specs.Words.{spelled}
use Rattle.stn_command.proofs.words.read_time.Goals as goal

pub returns-in-Ok : goal.returns-in-Ok
returns-in-Ok c = ap spelled c.in-Ok.ensures.value

pub returns-in-Err : goal.returns-in-Err
returns-in-Err c = ap Err c.from.ensures ∙ ap spelled c.in-Err.ensures.value
