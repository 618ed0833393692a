use Rattle.std.proofs.{Common.arith, lemmas.Grind.common_steps}
use Rattle.stn_command.proofs.changes.append_id_line.Goals as goal

pub returns-clause-printed : goal.returns-clause-printed
returns-clause-printed g c = grind (arith, common_steps)

pub returns-clause-kept : goal.returns-clause-kept
returns-clause-kept g c = c.append_pieces.ensures.kept
