use Rattle.std.proofs.Common.{◌∙◌}
use Rattle.stn_records.proofs.Places.{id_searched}
use Rattle.stn_records.proofs.sorted.has_id.Goals as goal

pub returns : goal.returns
returns c = c.is_ok.ensures.value ∙ id_searched c.args.ids.now c.args.id c.requires c.binary_search.result c.binary_search.ensures.bound c.binary_search.ensures.position
