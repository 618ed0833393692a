use Rattle.std.proofs.Common.{◌∙◌}
use Rattle.stn_records.proofs.Places.{made, made_is}
use Rattle.stn_records.proofs.id_map.IdMap.copy.Goals as goal

pub invariant_of-result : goal.invariant_of-result
invariant_of-result g c = made g.X.MapValue.Fits c.in_ok-from_slice.field-0.items c.args.self.now (c.in_ok-from_slice.ensures.items ∙ c.entries.ensures.value) c.entries.ensures.fit

pub returns : goal.returns
returns g c = made_is c.in_ok-from_slice.field-0.items c.args.self.now (c.in_ok-from_slice.ensures.items ∙ c.entries.ensures.value)
