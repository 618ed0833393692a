use Rattle.std.{proofs.Common.{subst, sym, ◌∙◌, ◌↔◌}, specs.Prelude.IsTrue}
use Rattle.stn_records.{specs.{Maps.HasEntries, Sorted.has_entries}, proofs.Holding.held}
use Rattle.stn_records.proofs.id_map.IdMap.holds.Goals as goal

pub returns : goal.returns
returns g c = subst (λ b. IsTrue b ↔ HasEntries c.args.self.now c.args.other.now)
    (sym (c.has_entries.ensures ∙ (λ i. has_entries g.X.MapValue.same (c.entries.ensures.value i) (c.entries-2.ensures.value i))))
    (held g.X.MapValue.same g.met.X.MapValue.decides c.args.self.now c.args.other.now)
