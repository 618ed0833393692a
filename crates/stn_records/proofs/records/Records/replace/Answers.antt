use Rattle.std.proofs.{Common.arith, lemmas.Grind.elements}
use Rattle.stn_records.proofs.records.Records.replace.Goals as goal

pub put_amendment-requires-clause-room : goal.put_amendment-requires-clause-room
put_amendment-requires-clause-room g c = grind (arith, elements)
