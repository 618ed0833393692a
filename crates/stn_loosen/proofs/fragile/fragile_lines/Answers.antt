use Rattle.std.proofs.{lemmas.{Grind.common_steps, List.length-map}, Common.{◌≡◌, inr, map, subst, arith, rules}}
use Rattle.stn_net.specs.{Schedule.HasSchedule}
use Rattle.stn_conflict.proofs.CycleSums.{places_of_chain}
use Rattle.stn_loosen.{specs.{Slack.IsSlack, Robust.loose_bounds, Stepped.as_bound, Fragile.start_bounds}, proofs.{Steps.source_steps, StartBounds.{begins, are_starts, starts_promise, counted, some}, fragile.fragile_lines.{Given.Over, Goals.After-deref-4}}}
use Rattle.stn_loosen.proofs.fragile.fragile_lines.Goals as goal

bounds_are : (g : Over) (c : After-deref-4 g) → c.in_ok-bounds.bounds.items ≡ loose_bounds c.args.base.now c.args.tolerance
bounds_are g c = search rules

starts_are : (g : Over) (c : After-deref-4 g) → map as_bound c.in_ok-starts.starts.items ≡ start_bounds c.args.base.now c.args.tolerance
starts_are g c = search rules

-- the same as they are passed on
all_are : (g : Over) (c : After-deref-4 g) → map as_bound c.deref-4.result.now ≡ start_bounds c.args.base.now c.args.tolerance
all_are g c = search rules

pub starts_of-requires : goal.starts_of-requires
starts_of-requires g c = search (rules, source_steps)

pub crossed_starts-requires-clause-begins : goal.crossed_starts-requires-clause-begins
crossed_starts-requires-clause-begins g c = search (rules, begins)

pub crossed_starts-requires-clause-sound : goal.crossed_starts-requires-clause-sound
crossed_starts-requires-clause-sound g c = search (rules, are_starts)

pub lines_of-requires-clause-steps : goal.lines_of-requires-clause-steps
lines_of-requires-clause-steps g c = search (rules, source_steps)

pub lines_of-requires-clause-counted : goal.lines_of-requires-clause-counted
lines_of-requires-clause-counted g c =
    let at = (goal.at.lines_of-requires-clause-counted g c).After-deref-4 in
    search (rules, counted, starts_are, length-map, bounds_are)

pub lines_of-requires-clause-horizon : goal.lines_of-requires-clause-horizon
lines_of-requires-clause-horizon g c =
    let at = (goal.at.lines_of-requires-clause-horizon g c).After-deref-4 in
    search (rules, some, bounds_are)

pub lines_of-requires-clause-there : goal.lines_of-requires-clause-there
lines_of-requires-clause-there g c = grind (arith, common_steps, places_of_chain)

pub returns : goal.returns
returns g c =
    let slack : IsSlack c.args.tolerance = search rules in
    let at = (goal.at.returns g c).After-deref-4 in
    let possible = subst HasSchedule (all_are g at) (rw c.in-None.is at c.in_ok-links.ensures) in
    inr (starts_promise c.args.base.now c.loose_durations.ensures.sound c.args.tolerance slack possible, c.new.ensures.items)

pub lines_of-requires-clause-few : goal.lines_of-requires-clause-few
lines_of-requires-clause-few g c = grind (arith, common_steps)
