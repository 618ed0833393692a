use Rattle.std.proofs.{Common.arith, lemmas.{Bool.and_parts, Grind.common_steps}}
use Rattle.stn_records.proofs.Holding.{both_first}
use Rattle.stn_records.proofs.sorted.has_entries.Goals as goal

pub returns-then-not-is_same : goal.returns-then-not-is_same
returns-then-not-is_same g c = grind (arith, and_parts, both_first)

pub loop-our-preserved : goal.loop-our-preserved
loop-our-preserved g c = grind (arith, and_parts, both_first)

pub returns : goal.returns
returns g c = grind (arith, common_steps)
