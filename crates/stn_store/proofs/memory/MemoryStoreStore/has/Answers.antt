use Rattle.std.proofs.{Common.{refl, sym, inl}, lemmas.{Bool.Decides.Decides-eqb, Slice.Eq.slice_eq-Decides}}
use Rattle.stn_store.proofs.memory.MemoryStoreStore.has.Goals as goal

pub returns-in-Some : goal.returns-in-Some
returns-in-Some g c = record {
  told = (c.in-Some.found.now, sym c.in-Some.ensures, slice_eq-Decides Decides-eqb c.in-Some.found.now c.args.bytes.now _ c.eq.ensures);
  failed = tt;
}

pub returns-in-None : goal.returns-in-None
returns-in-None g c = record { told = tt; failed = inl (sym c.in-None.ensures, refl) }
