use Rattle.std.proofs.{Common.{rules, ◌≡◌, arith}, lemmas.List.take_all}
use Rattle.stn_time.proofs.Each.{All-left, All-right}
use Rattle.stn_net.{specs.{Difference.NamesEvents, Horizon.horizon_bounds}, proofs.Horizons.length-horizon_bounds}
use Rattle.stn_loosen.{specs.Making.{loosening_of, made_bounds}, proofs.{Implied.searched_first, making.Moving.after.{Given.Over, Goals.After-events}}}
use Rattle.stn_loosen.proofs.making.Moving.after.Goals as goal

horizon_is : (g : Over) (c : After-events g) → c.args.horizon.now ≡ horizon_bounds c.making.inside.matrix.events
horizon_is g c = search rules

pub new-requires-clause-begins : goal.new-requires-clause-begins
new-requires-clause-begins g c =
    let events = c.making.inside.matrix.events in
    rw (horizon_is g (goal.at.new-requires-clause-begins g c).After-events, c.events.ensures.value) (take_all events (horizon_bounds events) (omega (arith, length-horizon_bounds events)))

pub new-requires-clause-base_named : goal.new-requires-clause-base_named
new-requires-clause-base_named g c =
    let making = c.making.inside in
    rw (horizon_is g (goal.at.new-requires-clause-base_named g c).After-events, c.events.ensures.value)
    (All-left (NamesEvents making.matrix.events) (horizon_bounds making.matrix.events) making.records.items c.making.invariant.exact.named)

pub new-requires-clause-extra_named : goal.new-requires-clause-extra_named
new-requires-clause-extra_named g c =
    let making = c.making.inside in
    rw (c.deref.ensures.value, c.events.ensures.value) (All-right (NamesEvents making.matrix.events) (horizon_bounds making.matrix.events) making.records.items c.making.invariant.exact.named)

pub invariant_of-result : goal.invariant_of-result
invariant_of-result g c =
    let making = c.making.inside in
    let whole : c.in_ok-network.network ≡ record { events = making.matrix.events; bounds = made_bounds (loosening_of making.matrix making.records.items) } = search rules
    in
    search (rules, searched_first)
