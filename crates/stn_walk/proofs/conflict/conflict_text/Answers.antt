use Rattle.std.proofs.{Common.{◌≡◌, ◌++◌, ap, ◌∙◌, arith}, lemmas.Grind.common_steps}
use Rattle.stn_lift.specs.PlanSource.{base_bounds}
use Rattle.stn_site.specs.Bounds.{all_bounds}
use Rattle.stn_walk.proofs.conflict.conflict_text.Goals as goal

pub cycle-requires-clause-begins : goal.cycle-requires-clause-begins
cycle-requires-clause-begins g c = grind (arith, common_steps)

pub cycle-requires-clause-base_named : goal.cycle-requires-clause-base_named
cycle-requires-clause-base_named g c = grind (arith, common_steps)

pub text_along-requires : goal.text_along-requires
text_along-requires g c =
    let bounds : c.bounds.result.now ++ c.deref.result.now ≡ all_bounds c.args.plan.now.source c.args.plan.now.state =
    λ i. (c.bounds.ensures.value ∙ ap base_bounds c.base-base.ensures) i ++ (c.deref.ensures.value ∙ c.in_ok-live.ensures.value) i in
    let links = c.deref-in-Some-2.ensures.value in
    record {
      live = c.deref-in-Some.ensures.value ∙ c.in_ok-live.ensures.value;
      named = rw (c.in-Some.is, bounds, ← links) at c.in_ok-found.ensures.named;
      negative = rw (c.in-Some.is, bounds, ← links) at c.in_ok-found.ensures.negative;
      places = rw (c.in-Some.is, bounds, ← links) at c.in_ok-found.ensures.places;
      short = rw links (omega (arith, rw c.in-Some.is at c.in_ok-found.ensures.short, c.events.ensures.small));
    }
