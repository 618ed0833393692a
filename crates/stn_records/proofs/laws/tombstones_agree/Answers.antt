use Rattle.stn_records.specs.ContentLaws.{sets_agree}
use Rattle.stn_records.proofs.laws.tombstones_agree.Goals as goal

pub returns : goal.returns
returns c = sets_agree
