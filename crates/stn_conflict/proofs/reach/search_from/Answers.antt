use Rattle.std.proofs.{Common.arith, lemmas.Grind.common_steps}
use Rattle.stn_conflict.proofs.{Relaxing.network_of, Turned.{has_facing, network_facing}}
use Rattle.stn_conflict.proofs.reach.search_from.Goals as goal

pub found-requires-clause-network : goal.found-requires-clause-network
found-requires-clause-network g c =
    rw (c.new-graph.ensures, c.in_ok-rows.ensures.first.faced) (network_facing c.args.direction
    (network_of c.args.base.now c.args.extra.now c.requires.begins c.requires.base_named c.requires.extra_named))

pub returns-in-Some : goal.returns-in-Some
returns-in-Some g c =
    let (tables, start, far) = rw (c.in-Some.is, c.new-graph.ensures, c.in_ok-rows.ensures.first.faced) at c.in_ok-search.ensures in
    record { rows_are = rw c.from.ensures at c.in_ok-rows.ensures; tables = tables; start = start; far = far }

pub returns-in-None : goal.returns-in-None
returns-in-None g c = λ has.
    (rw (c.in-None.is, c.new-graph.ensures, c.in_ok-rows.ensures.first.faced) at c.in_ok-search.ensures) (has_facing c.args.direction has)

pub new-graph-requires-clause-named : goal.new-graph-requires-clause-named
new-graph-requires-clause-named g c = grind (arith, common_steps)

pub of-requires : goal.of-requires
of-requires g c = grind (arith, common_steps)
