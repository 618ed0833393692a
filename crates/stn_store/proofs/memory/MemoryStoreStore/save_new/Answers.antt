use Rattle.std.proofs.Common.{rules}
use Rattle.stn_store.proofs.memory.MemoryStoreStore.save_new.Goals as goal

pub returns-clause-free : goal.returns-clause-free
returns-clause-free g c = search rules
