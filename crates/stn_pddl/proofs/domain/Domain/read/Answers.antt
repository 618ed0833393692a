use Rattle.stn_pddl.proofs.SoundActions.{domain-sound, domain-short}
use Rattle.stn_pddl.proofs.domain.Domain.read.Goals as goal

pub invariant_of-result : goal.invariant_of-result
invariant_of-result g c =
    let given = c.in_ok-actions.ensures.given in
    record { given = given; short = domain-short c.args.text.now _ given; sound = domain-sound c.args.text.now _ given }
