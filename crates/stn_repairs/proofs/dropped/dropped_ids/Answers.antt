use Rattle.std.proofs.Common.{List, All, sym, subst, ◌∙◌}
use Rattle.stn_net.specs.Difference.{NamesEvents}
use Rattle.stn_lift.specs.PlanSource.{base_bounds, events_of}
use Rattle.stn_records.specs.{Id.SiteCounter, declared.record.Record.Record}
use Rattle.stn_site.specs.Bounds.{bounds_of}
use Rattle.stn_repairs.{specs.Dropped.{facts_first, AreRefused}, proofs.{InOrder.sorted_are, Listing.turns_named}}
use Rattle.stn_repairs.proofs.dropped.dropped_ids.Goals as goal

pub refused_ids-requires : goal.refused_ids-requires
refused_ids-requires g c =
    subst (λ (order : List (SiteCounter × Record)). All (NamesEvents (events_of c.args.plan.now.source)) (bounds_of order)) (sym (c.deref.ensures.value ∙ c.in_ok-order.ensures))
    (turns_named (events_of c.args.plan.now.source) c.args.live.now c.requires.named)

pub returns : goal.returns
returns g c =
    let base = base_bounds c.args.plan.now.source in
    let refused = c.in_ok-ids.ids.items in
    let are : AreRefused base (facts_first c.args.live.now) refused = rw (c.deref.ensures.value ∙ c.in_ok-order.ensures) at c.in_ok-ids.ensures in
    record {
      refused = refused;
      in_turn = are;
      in_order = sorted_are base c.args.live.now refused c.sort_unstable.new.self.items c.requires.in_order are c.sort_unstable.ensures.permutation c.sort_unstable.ensures.sorted;
    }
