use Rattle.std.proofs.Common.{sym, subst}
use Rattle.stn_records.{specs.Content.IsSound, proofs.Outcomes.empty_sound}
use Rattle.stn_records.proofs.records.Records.new.Goals as goal

pub invariant_of-result : goal.invariant_of-result
invariant_of-result g c = subst IsSound (sym c.new.ensures) empty_sound
