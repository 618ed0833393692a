use Rattle.std.proofs.{Common.{refl, inl, arith}, lemmas.Grind.elements}
use Rattle.stn_store.proofs.Lacks.{passed_on}
use Rattle.stn_store.proofs.memory.MemoryStoreStore.save.Goals as goal

pub returns-in_err-text-clause-failed : goal.returns-in_err-text-clause-failed
returns-in_err-text-clause-failed g c = rw (passed_on _ _ c.from_residual.ensures.1) (inl refl)

pub returns-clause-saved : goal.returns-clause-saved
returns-clause-saved g c = grind (arith, elements)
