use Rattle.std.{proofs.Common.{ap, sym, not, ◌∙◌}, specs.{Prelude.unwrap_or, Bool.then_some}}
use Rattle.stn_records.specs.declared.faults.RecordsFault.TheVariants.{Unknown, Memory}
use Rattle.stn_records.proofs.records.Records.withdraw.Goals as goal

pub returns-then-not-is_known-clause-fault : goal.returns-then-not-is_known-clause-fault
returns-then-not-is_known-clause-fault g c = ap (λ b. unwrap_or (then_some (not b) Unknown) Memory) (sym c.if-not-is_known.true ∙ c.is_known.ensures)
