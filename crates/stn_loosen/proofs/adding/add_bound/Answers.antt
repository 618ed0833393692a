use Rattle.std.proofs.Common.{◌∙◌, rules}
use Rattle.stn_net.specs.Difference.{IsBoundWithin}
use Rattle.stn_lift.specs.PlanSource.{events_of}
use Rattle.stn_site.{specs.Held.difference, proofs.Refused.add_passes}
use Rattle.stn_loosen.proofs.adding.add_bound.Goals as goal

pub prove-unreachable-requires : goal.prove-unreachable-requires
prove-unreachable-requires g c =
    let held = c.args.plan.now in
    let within : IsBoundWithin (events_of held.source) (difference c.from.result c.to.result c.lo.result c.hi.result) = record {
      named = record { from = rw c.from.ensures.value c.requires.named.from; to = rw c.to.ensures.value c.requires.named.to };
      differs = λ same. c.from.ensures.differs (same ∙ c.to.ensures.value);
      ordered = rw c.hi.ensures.value c.lo.ensures.ordered;
    } in
    let none = add_passes held (difference c.from.result c.to.result c.lo.result c.hi.result) within ∙ c.requires.room in
    search rules

pub returns-in-Ok-clause-added : goal.returns-in-Ok-clause-added
returns-in-Ok-clause-added g c =
    let left = c.in-Ok.ensures.leaves.state in
    cc
