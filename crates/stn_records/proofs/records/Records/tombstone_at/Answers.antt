use Rattle.std.proofs.{Common.arith, lemmas.Grind.elements}
use Rattle.stn_records.proofs.records.Records.tombstone_at.Goals as goal

pub returns-in_err-id : goal.returns-in_err-id
returns-in_err-id g c = grind (arith, elements)
