use Rattle.stn_records.specs.{JoinLaws.by_items_alone, ContentLaws.contents_join}
use Rattle.stn_records.proofs.laws.states_by_items_alone.Goals as goal

pub returns : goal.returns
returns c = by_items_alone contents_join
