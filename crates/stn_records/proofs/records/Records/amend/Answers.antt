use Rattle.std.proofs.Common.{arith}
use Rattle.stn_records.proofs.Amending.{amend_again}
use Rattle.stn_records.proofs.records.Records.amend.Goals as goal

pub returns-in-Some-clause-again : goal.returns-in-Some-clause-again
returns-in-Some-clause-again g c = grind (arith, amend_again)
