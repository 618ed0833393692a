use Rattle.stn_picture.proofs.OnePicture as same
use Rattle.stn_picture.proofs.laws.one_picture.Goals as goal

pub returns : goal.returns
returns c = same.one_picture c.one_named_cycle.ensures c.negative_cycle_is_conflict.ensures
