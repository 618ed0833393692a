use Rattle.std.proofs.Common.{refl, ⊎_elim}
use Rattle.stn_pddl.proofs.action.Action.read_literal.Goals as goal

pub returns-in-And-clause-given : goal.returns-in-And-clause-given
returns-in-And-clause-given g c = rw (← c.head_of.ensures) (⊎_elim (λ is. rw is refl) (⊎_elim (λ is. rw is refl) (λ is. rw is refl)) c.in-And.is)
