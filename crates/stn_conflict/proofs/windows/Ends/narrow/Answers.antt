use Rattle.std.proofs.Common.{append-nil, refl, sym, ap, ◌∙◌, arith}
use Rattle.stn_net.specs.Schedule.{times_of}
use Rattle.stn_conflict.proofs.{Narrowing.{can_take, ends_narrowed, given_relaxed, old_own, some_floor}, Relaxing.among_events, Turned.{faced_ends, named_facing}}
use Rattle.stn_conflict.proofs.windows.Ends.narrow.Goals as goal

-- the graph is that of the given bounds
pub lower-requires-clause-begun : goal.lower-requires-clause-begun
lower-requires-clause-begun g c =
    let self = c.args.self.now in
    let direction = self.rows.direction in
    let given = c.args.given.now in
    let (bounds, taken, single, are, possible) = c.requires.ends in
    let can = can_take direction c.args.events given bounds c.args.bound.now self taken single are c.requires.single c.requires.named c.requires.network possible in
    rw (c.new-graph.ensures, append-nil c.args.given.now) (record {
      tables = are.tables;
      network = can.network;
      kept = omega (arith, are.rows_are.first.choice);
      named = named_facing direction given (among_events given refl c.requires.network.named);
      start_named = omega (arith, are.start);
      own = ap (times_of self.search.far.items) are.start ∙ old_own _ _ _ _ _ can;
    })

pub lower-requires-clause-met : goal.lower-requires-clause-met
lower-requires-clause-met g c =
    let (bounds, taken, single, are, possible) = c.requires.ends in
    let can = can_take _ c.args.events c.args.given.now bounds c.args.bound.now c.args.self.now taken single are c.requires.single c.requires.named c.requires.network possible in
    rw (c.new-graph.ensures, append-nil c.args.given.now) (given_relaxed _ _ _ _ _ can)

pub lower-requires-clause-floor : goal.lower-requires-clause-floor
lower-requires-clause-floor g c =
    let (bounds, taken, single, are, possible) = c.requires.ends in
    let can = can_take _ c.args.events c.args.given.now bounds c.args.bound.now c.args.self.now taken single are c.requires.single c.requires.named c.requires.network possible in
    let (low, floor, under) = some_floor _ _ _ _ _ can in
    rw (c.new-graph.ensures, append-nil c.args.given.now, are.start, c.to.ensures.value, c.side_of-most.ensures.weight)
    (low, floor, rw (faced_ends c.args.self.now.rows.direction c.args.bound.now).1 at under)

pub returns : goal.returns
returns g c = λ bounds taken single are possible.
    let self = c.args.self.now in
    let e = rw (c.new-graph.ensures, append-nil c.args.given.now, are.start, c.to.ensures.value, c.side_of-most.ensures.weight) at c.lower.ensures in
    ends_narrowed self.rows.direction c.args.events c.args.given.now bounds c.args.bound.now self taken single are c.requires.single c.requires.named c.requires.network possible refl e.begun.tables e.start (ap (times_of c.lower.new.self.far.items) (sym e.start) ∙ e.begun.own) e.met e.fall e.here e.floors
