use Rattle.std.proofs.Common.{◌∙◌}
use Rattle.std.specs.FinMap as fin
use Rattle.stn_records.proofs.{Places.{made, made_is, nothing_listed}, Proper.empty_fits}
use Rattle.stn_records.proofs.id_map.IdMap.new.Goals as goal

pub invariant_of-result : goal.invariant_of-result
invariant_of-result g c = made g.X.MapValue.Fits c.new.result.items fin.empty (c.new.ensures.items ∙ nothing_listed _) (empty_fits g.X.MapValue.Fits)

pub returns : goal.returns
returns g c = made_is c.new.result.items fin.empty (c.new.ensures.items ∙ nothing_listed _)
