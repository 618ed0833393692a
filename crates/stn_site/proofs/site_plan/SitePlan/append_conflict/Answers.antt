use Rattle.std.{proofs.{Common.{◌≡◌, ◌+◌, ◌<◌, ◌≤◌, ◌++◌, length, length-append, ap, subst, ◌∙◌, append_assoc, arith, rules, All, to_z, of_z, w64}, lemmas.{Int.to_z-of_z, Result.on_ok_weaker}}, specs.List.flat_map}
use Rattle.stn_lift.specs.PlanSource.{events_of, base_bounds}
use Rattle.stn_conflict.specs.{Arcs.{weight_of, IsNegativeCycle}, Named.IsNamedCycle}
use Rattle.stn_net.specs.Schedule.{HasSchedule}
use Rattle.stn_site.{specs.{Bounds.live_bounds, Names.live_ids, Lines.{conflict_line, link_line}}, proofs.{Printing.{bounds_named, one_each, conflict_part, some_if, if_some}, site_plan.SitePlan.append_conflict.{Given.Over, Goals.After-bounds-base}}}
use Rattle.stn_site.proofs.site_plan.SitePlan.append_conflict.Goals as goal

ids_is : (g : Over) (c : After-bounds-base g) → c.as_slice-ids.result.now ≡ live_ids c.args.self.now.state
ids_is g c = c.as_slice-ids.ensures.value ∙ c.in_ok-all_ids.ensures

others_is : (g : Over) (c : After-bounds-base g) → c.as_slice-others.result.now ≡ live_bounds c.args.self.now.state
others_is g c = c.as_slice-others.ensures.value ∙ c.in_ok-all_others.ensures.value

base_is : (g : Over) (c : After-bounds-base g) → c.bounds-base.result.now ≡ base_bounds c.args.self.now.source
base_is g c = c.bounds-base.ensures.value ∙ ap base_bounds c.base.ensures

pub cycle-requires-clause-extra_named : goal.cycle-requires-clause-extra_named
cycle-requires-clause-extra_named g c =
    bounds_named (live_bounds c.args.self.now.state) c.as_slice-others.result.now (events_of c.args.self.now.source) c.events.result (c.events.ensures.value ∙ ap events_of c.base-2.ensures)
    (others_is g (goal.at.cycle-requires-clause-extra_named g c).After-bounds-base) c.in_ok-all_others.ensures.named

pub unwrap-named-requires : goal.unwrap-named-requires
unwrap-named-requires g c =
    let at = (goal.at.unwrap-named-requires g c).After-bounds-base in
    some_if c.in_ok-found.found (λ none. c.requires (subst HasSchedule (λ i. base_is g at i ++ others_is g at i) (c.in_ok-found.ensures.none.0 none)))

pub append_link_lines-requires-clause-there : goal.append_link_lines-requires-clause-there
append_link_lines-requires-clause-there g c =
    let others = c.as_slice-others.result.now in
    rw c.deref.ensures.value (subst (λ n. All (λ link. link.place < n) c.unwrap-named.result.links.items) (length-append c.bounds-base.result.now others)
    (if_some c.in_ok-found.found c.unwrap-named.result (λ cycle. All (λ link. link.place < length (c.bounds-base.result.now ++ others)) cycle.links.items) c.unwrap-named.ensures c.in_ok-found.ensures.places))

pub append_link_lines-requires-clause-one_each : goal.append_link_lines-requires-clause-one_each
append_link_lines-requires-clause-one_each g c =
    let at = (goal.at.append_link_lines-requires-clause-one_each g c).After-bounds-base in
    one_each c.args.self.now.state c.as_slice-ids.result.now c.as_slice-others.result.now (ids_is g at) (others_is g at)

pub returns : goal.returns
returns g c =
    let at = (goal.at.returns g c).After-bounds-base in
    let base = c.bounds-base.result.now in
    let ids = c.as_slice-ids.result.now in
    let others = c.as_slice-others.result.now in
    let named = c.unwrap-named.result in
    let all = base ++ others in
    let links = flat_map (link_line base ids others) named.links.items in
    let sum : to_z w64 (of_z w64 named.sum) ≡ named.sum = to_z-of_z w64 named.sum (search rules) in
    let few = if_some c.in_ok-found.found named (λ cycle. length cycle.links.items ≤ c.events.result + 1) c.unwrap-named.ensures c.in_ok-found.ensures.short in
    record {
      part = on_ok_weaker c.append_link_lines.result
          (λ text. (
            conflict_line named.sum ++ links,
            conflict_part c.args.self.now.source c.args.self.now.state base others ids named.links.items named.sum (base_is g at) (ids_is g at) (others_is g at)
                (if_some c.in_ok-found.found named (λ cycle. IsNamedCycle all cycle.links.items) c.unwrap-named.ensures c.in_ok-found.ensures.named)
                (if_some c.in_ok-found.found named (λ cycle. IsNegativeCycle all cycle.links.items) c.unwrap-named.ensures c.in_ok-found.ensures.negative)
                (if_some c.in_ok-found.found named (λ cycle. cycle.sum ≡ weight_of all cycle.links.items) c.unwrap-named.ensures c.in_ok-found.ensures.sum),
            text ∙ (λ i. (c.in_ok-append_conflict_line.ensures.line ∙ ap (λ n. c.args.out.now.items ++ conflict_line n) sum) i ++ flat_map (link_line base ids others) (c.deref.ensures.value i)) ∙ append_assoc c.args.out.now.items (conflict_line named.sum) links,
          ))
          c.append_link_lines.ensures.text;
      short = on_ok_weaker c.append_link_lines.result
          (λ short. omega (arith, short, few, ap length c.deref.ensures.value, c.in_ok-append_conflict_line.ensures.short, c.events.ensures.small)) c.append_link_lines.ensures.short;
    }
