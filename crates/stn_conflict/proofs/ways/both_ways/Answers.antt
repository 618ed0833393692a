use Rattle.std.proofs.{Common.{rules, arith}, lemmas.Grind.common_steps}
use Rattle.stn_conflict.proofs.{Known.known_within, Relaxing.{network_of}}
use Rattle.stn_conflict.proofs.ways.both_ways.Goals as goal

pub way-requires-clause-network : goal.way-requires-clause-network
way-requires-clause-network g c =
    rw (c.new-graph.ensures, c.in_ok-rows.ensures.first.faced) (network_of c.args.base.now c.args.extra.now c.requires.begins c.requires.base_named c.requires.extra_named)

pub way-requires-2-clause-network : goal.way-requires-2-clause-network
way-requires-2-clause-network g c =
    rw (c.new-graph.ensures, c.in_ok-rows.ensures.first.faced) (network_of c.args.base.now c.args.extra.now c.requires.begins c.requires.base_named c.requires.extra_named)

pub way-requires-clause-kept : goal.way-requires-clause-kept
way-requires-clause-kept g c = search (rules, known_within)

pub way-requires-2-clause-kept : goal.way-requires-2-clause-kept
way-requires-2-clause-kept g c = search (rules, known_within)

pub new-graph-requires-clause-named : goal.new-graph-requires-clause-named
new-graph-requires-clause-named g c = grind (arith, common_steps)

pub of-requires : goal.of-requires
of-requires g c = grind (arith, common_steps)

pub way-requires-2-clause-whole : goal.way-requires-2-clause-whole
way-requires-2-clause-whole g c = grind (arith, common_steps)

pub way-requires-clause-whole : goal.way-requires-clause-whole
way-requires-clause-whole g c = grind (arith, common_steps)
