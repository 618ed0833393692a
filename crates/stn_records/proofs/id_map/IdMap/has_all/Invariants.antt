use Rattle.std.proofs.Common.{take}
use Rattle.stn_records.specs.Content.{AllHeld}
use Rattle.stn_records.proofs.id_map.IdMap.has_all.Given as goal

abbrev pub invariant-loop-id : goal.invariant-loop-id
invariant-loop-id g l = AllHeld l.self (take l.id-index l.ids)
