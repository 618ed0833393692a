use Rattle.std.proofs.Common.{◌∙◌}
use Rattle.stn_records.{specs.Sorted.dispute_of, proofs.Disputes.disputed}
use Rattle.stn_records.proofs.id_map.IdMap.dispute.Goals as goal

pub returns : goal.returns
returns g c = c.first_dispute.ensures ∙ (λ i. dispute_of g.X.MapValue.same (c.entries.ensures.value i) (c.entries-2.ensures.value i)) ∙ disputed g.X.MapValue.same c.args.self.now c.args.other.now
