use Rattle.std.proofs.{Common.{◌++◌, arith}, lemmas.Grind.common_steps}
use Rattle.stn_conflict.proofs.{CycleSums.negative_no_schedule, Found.{found_none, told_of_cycle}, Known.{known_first, known_within}, Relaxing.network_of}
use Rattle.stn_conflict.proofs.search.cycle.Goals as goal

pub cycle_of-requires-clause-begins : goal.cycle_of-requires-clause-begins
cycle_of-requires-clause-begins g c = rw (c.new-graph.ensures, c.in_ok-rows.ensures.first.faced) (known_first c.args.events c.args.base.now c.args.extra.now c.requires.begins)

pub cycle_of-requires-clause-named : goal.cycle_of-requires-clause-named
cycle_of-requires-clause-named g c =
    rw (c.new-graph.ensures, c.in_ok-rows.ensures.first.faced) (network_of c.args.base.now c.args.extra.now c.requires.begins c.requires.base_named c.requires.extra_named).named

pub cycle_of-requires-clause-kept : goal.cycle_of-requires-clause-kept
cycle_of-requires-clause-kept g c = rw c.new-graph.ensures (omega (arith, c.in_ok-rows.ensures.first.choice, known_within c.args.events c.args.base.now c.requires.begins))

pub returns : goal.returns
returns g c =
    let bounds = c.args.base.now ++ c.args.extra.now in
    let found = rw (c.new-graph.ensures, c.in_ok-rows.ensures.first.faced) at c.cycle_of.ensures in
    let told = told_of_cycle c.cycle_of.result found in
    record {
      none = found_none c.cycle_of.result _ _ found (λ cycle is. negative_no_schedule bounds _ is.negative);
      named = told _ (λ cycle is. is.named);
      negative = told _ (λ cycle is. is.negative);
      sum = told _ (λ cycle is. is.sum_is);
      least = told _ (λ cycle is. is.least);
      places = told _ (λ cycle is. is.places);
      short = told _ (λ cycle is. is.short);
    }

pub cycle_of-requires-clause-whole : goal.cycle_of-requires-clause-whole
cycle_of-requires-clause-whole g c = grind (arith, common_steps)

pub new-graph-requires-clause-named : goal.new-graph-requires-clause-named
new-graph-requires-clause-named g c = grind (arith, common_steps)

pub of-requires : goal.of-requires
of-requires g c = grind (arith, common_steps)
