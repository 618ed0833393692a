use Rattle.std.proofs.Common.{◌∙◌}
use Rattle.stn_records.{specs.{Id.id_cmp, Maps.union, Sorted.merge}, proofs.{Places.{made, made_is, union_entries}, Proper.union_fits}}
use Rattle.stn_records.proofs.id_map.IdMap.union.Goals as goal

pub invariant_of-result : goal.invariant_of-result
invariant_of-result g c = made g.X.MapValue.Fits c.in_ok-merged.field-0.items (union c.args.self.now c.args.other.now)
    (c.in_ok-merged.ensures ∙ (λ i. merge id_cmp (c.entries.ensures.value i) (c.entries-2.ensures.value i)) ∙ union_entries c.args.self.now c.args.other.now)
    (union_fits g.X.MapValue.Fits c.args.self.now c.args.other.now c.entries.ensures.fit c.entries-2.ensures.fit)

pub returns : goal.returns
returns g c = made_is c.in_ok-merged.field-0.items (union c.args.self.now c.args.other.now)
    (c.in_ok-merged.ensures ∙ (λ i. merge id_cmp (c.entries.ensures.value i) (c.entries-2.ensures.value i)) ∙ union_entries c.args.self.now c.args.other.now)
