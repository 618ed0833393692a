use Rattle.stn_records.proofs.{Outcomes.amendment_sound, OneItem.amendment_again, Amending.no_clash}
use Rattle.std.proofs.Common.{rules, arith}
use Rattle.stn_records.proofs.records.Records.put_amendment.Goals as goal

-- the entry is there, and so its record
pub returns-then-is_some-clause-amended : goal.returns-then-is_some-clause-amended
returns-then-is_some-clause-amended g c = grind (arith, no_clash, amendment_again)

pub invariant_of-self : goal.invariant_of-self
invariant_of-self g c = search (rules, no_clash, amendment_sound)
