-- What stands in a store in memory.
use Rattle.std.specs.{Prelude.{List, map}, String.string_bytes}
use Rattle.stn_store.specs.{Store.Entry, declared.memory.{NamedBytes.NamedBytes, MemoryStore.MemoryStore}}

abbrev pub entry_of : {A : Type 0} → NamedBytes A → Entry
entry_of one = record { name = string_bytes one.name; bytes = one.bytes.items }

-- its entries, in the order in which they were put there
abbrev pub entries_of : {A : Type 0} → MemoryStore A → List Entry
entries_of store = map entry_of store.entries.items
