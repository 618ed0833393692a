use Rattle.std.proofs.{Common.arith, lemmas.Grind.common_steps}
use Rattle.stn_store.proofs.memory.MemoryStore.put.Goals as goal

pub returns-clause-put : goal.returns-clause-put
returns-clause-put g c = grind (arith, common_steps)
