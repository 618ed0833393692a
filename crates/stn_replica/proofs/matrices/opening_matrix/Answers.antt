use Rattle.std.proofs.Common.{rules, ◌∙◌}
use Rattle.stn_lift.proofs.PlanHorizon.{horizon_within}
use Rattle.stn_replica.proofs.Opening.{rest_named, slice_is, others_are, other_named, opened_more, all_opened}
use Rattle.stn_replica.proofs.matrices.opening_matrix.Goals as goal

pub slice_bounds-others-start : goal.slice_bounds-others-start
slice_bounds-others-start g c = search (rules, horizon_within)

pub slice_bounds-others-count : goal.slice_bounds-others-count
slice_bounds-others-count g c = search (rules, horizon_within)

pub closest_first-requires : goal.closest_first-requires
closest_first-requires g c = search (rules, slice_is, rest_named)

pub tighten-fits-requires : goal.tighten-fits-requires
tighten-fits-requires g c =
    let moved = others_are c.args.base.now
    c.bounds.ensures.value (c.from.ensures ∙ c.events-events.ensures.value) c.deref-bound-items.ensures.value c.in_ok-closest_first.ensures in
    search (rules, other_named)

pub loop-bound-preserved : goal.loop-bound-preserved
loop-bound-preserved g c =
    let moved = others_are c.args.base.now
    c.bounds.ensures.value (c.from.ensures ∙ c.events-events.ensures.value) c.deref-bound-items.ensures.value c.in_ok-closest_first.ensures in
    opened_more c.bounds.ensures.sound moved c.tighten-fits.result c.loop-bound-test.true c.bound-item.is
    c.loop-bound.invariant c.tighten-fits.ensures.possible c.tighten-fits.ensures.exact c.tighten-fits.ensures.events

pub returns : goal.returns
returns g c =
    let moved = others_are c.args.base.now
    c.bounds.ensures.value (c.from.ensures ∙ c.events-events.ensures.value) c.deref-bound-items.ensures.value c.in_ok-closest_first.ensures in
    record {
      exact = all_opened c.bounds.ensures.sound moved
          c.loop-bound-test.false c.loop-bound.invariant;
      events = c.loop-bound.invariant.events;
    }
