use Rattle.std.proofs.{lemmas.Grind.common_steps, Common.arith}
use Rattle.stn_guard.{proofs.Put.puts_more}
use Rattle.stn_guard.proofs.adding.put_each.Goals as goal

pub loop-bound-preserved : goal.loop-bound-preserved
loop-bound-preserved g c = grind (arith, common_steps, puts_more)
