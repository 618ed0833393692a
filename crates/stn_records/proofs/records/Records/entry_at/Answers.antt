use Rattle.std.proofs.{Common.arith, lemmas.Grind.elements}
use Rattle.stn_records.proofs.records.Records.entry_at.Goals as goal

pub returns-in_err-entry : goal.returns-in_err-entry
returns-in_err-entry g c = grind (arith, elements)
