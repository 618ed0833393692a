use Rattle.std.proofs.Common.{refl}
use Rattle.stn_asked.proofs.asked.Asked.query.Goals as goal

pub returns-in-Foresee : goal.returns-in-Foresee
returns-in-Foresee g c = rw (c.in-Foresee.is, c.choice_of.ensures) refl
