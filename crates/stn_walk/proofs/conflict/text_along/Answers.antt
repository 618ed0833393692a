use Rattle.std.proofs.{lemmas.{Grind.common_steps, List.length-map}, Common.{◌++◌, ℕ, List, map, ap, ◌∙◌, arith}}
use Rattle.stn_lift.specs.PlanSource.{base_bounds}
use Rattle.stn_drawing.specs.Ticks.{axis_reaching}
use Rattle.stn_walk.specs.Walk.{axis_left, axis_width, early, late, greatest, sums_of, walk_text}
use Rattle.stn_walk.proofs.conflict.text_along.Goals as goal

pub invariant_of-walk : goal.invariant_of-walk
invariant_of-walk g c = grind (arith, common_steps, length-map)

pub sums_of-requires-clause-places : goal.sums_of-requires-clause-places
sums_of-requires-clause-places g c = grind (arith, common_steps)

pub returns : goal.returns
returns g c =
    let source = c.args.plan.now.source in
    let state = c.args.plan.now.state in
    let links = c.args.links.now in
    let names : List (List ℕ) = map (λ name. name.items) c.args.names.now in
    let base = c.bounds-base.ensures.value ∙ ap base_bounds c.base.ensures in
    let live = c.requires.live in
    let ids = c.deref-2.ensures.value ∙ c.in_ok-ids.ensures in
    let sums = c.in_ok-sums.ensures.sums ∙ (λ i. sums_of (base i ++ live i) links) in
    let before = c.reach_of-before.ensures.before ∙ ap (greatest early) (c.deref.ensures.value ∙ sums) in
    let after = c.reach_of-before.ensures.after ∙ ap (greatest late) (c.deref.ensures.value ∙ sums) in
    let axis = c.reaching.ensures ∙ (λ i. axis_reaching axis_left axis_width (before i) (after i) (c.top_of-bottom.ensures.value i)) in
    record {
      links = links;
      named = c.requires.named;
      negative = c.requires.negative;
      repairs = c.in_ok-repairs.repairs.items;
      are = c.in_ok-repairs.ensures;
      whole = c.in_ok-append.ensures
          ∙ (λ i. c.new-text.ensures.items i ++ walk_text (record {
            title = c.args.title.now;
            names = names;
            base = base i;
            ids = ids i;
            others = live i;
            links = links;
            sums = (c.deref-3.ensures.value ∙ sums) i;
            repairs = c.deref-4.ensures.value i;
            axis = axis i;
          }));
    }
