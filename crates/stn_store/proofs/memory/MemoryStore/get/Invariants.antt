use Rattle.std.proofs.Common.{◌≡◌, option_map, map, take}
use Rattle.stn_store.specs.{Store.bytes_under, Memory.entry_of}
use Rattle.stn_store.proofs.memory.MemoryStore.get.Given as goal

abbrev pub invariant-loop-entry : goal.invariant-loop-entry
invariant-loop-entry g l = option_map (λ bytes. bytes.now) l.found ≡ bytes_under (map entry_of (take l.entry-index l.entry-items)) l.name
