use Rattle.std.proofs.{Common.{arith}, lemmas.Grind.common_steps}
use Rattle.stn_line.proofs.OfStn.{is_named}
use Rattle.stn_line.proofs.reading.command.Goals as goal

pub asking-requires-clause-named : goal.asking-requires-clause-named
asking-requires-clause-named c = grind (arith, is_named, common_steps)
