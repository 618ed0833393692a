use Rattle.stn_site.proofs.Items.{state_is_union}
use Rattle.stn_site.proofs.laws.state_is_union.Goals as goal

pub returns : goal.returns
returns c = state_is_union
