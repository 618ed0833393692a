use Rattle.stn_records.specs.{JoinLaws.by_items_alone, ContentLaws.maps_join}
use Rattle.stn_records.proofs.laws.maps_by_items_alone.Goals as goal

pub returns : goal.returns
returns g c = by_items_alone (maps_join g.X.MapValue.same g.met.X.MapValue.decides)
