use Rattle.std.proofs.Common.{rules}
use Rattle.stn_guard.proofs.Put.{took_each}
use Rattle.stn_guard.proofs.adding.add_each.Goals as goal

pub returns-in-Ok-take-clause-adds : goal.returns-in-Ok-take-clause-adds
returns-in-Ok-take-clause-adds g c = search (rules, took_each)
