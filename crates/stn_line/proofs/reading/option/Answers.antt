use Rattle.std.proofs.{lemmas.Grind.common_steps, Common.arith}
use Rattle.clap.{proofs.WalkLemmas.first_value-rows}
use Rattle.stn_line.proofs.reading.option.Goals as goal

pub returns : goal.returns
returns c = grind (arith, common_steps, first_value-rows)
