use Rattle.std.proofs.{Common.{rules, arith}, lemmas.Grind.common_steps}
use Rattle.stn_loosen.proofs.Looser.{durations_last}
use Rattle.stn_loosen.proofs.starts.loose_durations.Goals as goal

pub loose-requires : goal.loose-requires
loose-requires g c = search (rules, durations_last)

pub loop-duration-preserved : goal.loop-duration-preserved
loop-duration-preserved g c = grind (arith, common_steps)

pub returns-clause-value : goal.returns-clause-value
returns-clause-value g c = grind (arith, common_steps)
