use Rattle.std.proofs.Common.{ap, subst, ◌∙◌, ◌++◌}
use Rattle.stn_lift.specs.PlanSource.{base_bounds, events_of}
use Rattle.stn_records.specs.Content.{Content}
use Rattle.stn_site.specs.Bounds.{live_bounds}
use Rattle.stn_replica.specs.Invariant.{IsSettled}
use Rattle.stn_replica.proofs.replica.Replica.opened.Goals as goal

pub invariant_of-result : goal.invariant_of-result
invariant_of-result g c = record {
  named = c.records.ensures.named;
  opening_events = c.requires.events;
  current_events = c.rebuild-possible.ensures.events ∙ c.in_ok-current.ensures.events ∙ c.events.ensures.value ∙ ap events_of c.base.ensures;
  opening_exact = c.requires.exact;
  settled = subst (λ (s : Content). IsSettled (base_bounds c.args.plan.source ++ live_bounds s) c.rebuild-possible.new.current c.rebuild-possible.result) c.records.ensures.value
      (c.rebuild-possible.ensures.settled (base_bounds c.args.plan.source) c.requires.exact);
  counted = c.rebuild-possible.ensures.counted;
}
