use Rattle.std.proofs.Common.{refl}
use Rattle.stn_net.proofs.bound.Bound.horizon.Goals as goal

pub returns : goal.returns
returns c = rw (c.origin.ensures, rw c.unwrap.ensures at c.new.ensures.value, rw c.unwrap-2.ensures at c.new-2.ensures.value) refl
