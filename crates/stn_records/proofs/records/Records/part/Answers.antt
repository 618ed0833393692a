use Rattle.stn_records.proofs.Outcomes.{part_sound}
use Rattle.stn_records.proofs.records.Records.part.Goals as goal

pub invariant_of-result : goal.invariant_of-result
invariant_of-result g c = part_sound c.self.inside.state c.in-Ok.state c.args.records.now c.args.tombstones.now c.self.invariant c.in-Ok.ensures
