use Rattle.std.proofs.Common.{arith, rules}
use Rattle.stn_records.{proofs.Live.live_sorted}
use Rattle.stn_replica.proofs.Rising.{without_none}
use Rattle.stn_replica.proofs.risen.Risen.of_all.Goals as goal

pub invariant_of-result : goal.invariant_of-result
invariant_of-result g c = search (rules, live_sorted)

pub returns : goal.returns
returns g c = grind (arith, without_none)
