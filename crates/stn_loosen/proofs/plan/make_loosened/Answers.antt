use Rattle.std.proofs.{Common.{◌≡◌, ap, ◌∙◌, arith, rules}, lemmas.{Result.err_from_is_err_and, List.Sorted.All-permutation}}
use Rattle.stn_net.specs.Difference.{NamesEvents}
use Rattle.stn_lift.specs.PlanSource.{events_of}
use Rattle.stn_loosen.{specs.{Slack.IsSlack, Loosened.{orders_of, loose_durations}, Making.{Loosening, with_more}}, proofs.{Looser.{durations_last, durations_named, orders_named}, ThreeParts.few_durations, Whole.{durations_possible, orders_possible, made_of, cause_of}, plan.make_loosened.{Given.Over, Goals.In_ok-orders}}}
use Rattle.stn_loosen.proofs.plan.make_loosened.Goals as goal

pub make_durations-requires-clause-named : goal.make_durations-requires-clause-named
make_durations-requires-clause-named g c =
    rw (c.in_ok-making.ensures, c.events.ensures.value, c.durations_of.ensures.value) (durations_named c.args.base.now c.durations_of.ensures.sound)

pub make_durations-requires-clause-lasting : goal.make_durations-requires-clause-lasting
make_durations-requires-clause-lasting g c = rw c.durations_of.ensures.value (durations_last c.args.base.now)

pub make_durations-requires-clause-possible : goal.make_durations-requires-clause-possible
make_durations-requires-clause-possible g c =
    let slack : IsSlack c.args.tolerance = search rules in
    rw (c.in_ok-making.ensures, c.events.ensures.value, c.durations_of.ensures.value) (durations_possible c.args.base.now c.durations_of.ensures.sound c.args.tolerance slack)

pub make_durations-requires-clause-few : goal.make_durations-requires-clause-few
make_durations-requires-clause-few g c =
    rw (c.in_ok-making.ensures, c.durations_of.ensures.value) (omega (arith, few_durations c.args.base.now, c.durations_of.ensures.sound.small))

-- the orders are made after the durations
begun : (g : Over) (c : In_ok-orders g) → c.make_durations.new.self ≡ record { events = events_of c.args.base.now; records = loose_durations c.args.tolerance c.args.base.now }
begun g c = rw (c.in_ok-making.ensures, c.events.ensures.value, c.durations_of.ensures.value) at c.in_ok-make_durations.ensures

pub make_orders-requires-clause-named : goal.make_orders-requires-clause-named
make_orders-requires-clause-named g c =
    let source = c.args.base.now in
    rw (begun g (goal.at.make_orders-requires-clause-named g c).In_ok-orders, c.deref.ensures.value)
    (All-permutation (NamesEvents (events_of source)) (orders_of source) c.in_ok-orders.orders.items c.in_ok-orders.ensures.same (orders_named source c.durations_of.ensures.sound))

pub make_orders-requires-clause-possible : goal.make_orders-requires-clause-possible
make_orders-requires-clause-possible g c =
    let slack : IsSlack c.args.tolerance = search rules in
    rw (begun g (goal.at.make_orders-requires-clause-possible g c).In_ok-orders, c.deref.ensures.value)
    (orders_possible c.args.base.now c.durations_of.ensures.sound c.args.tolerance slack c.in_ok-orders.orders.items c.in_ok-orders.ensures.same)

pub returns-in_err-make_orders : goal.returns-in_err-make_orders
returns-in_err-make_orders g c =
    let fault = rw c.deref.ensures.value at c.in_err-make_orders.ensures.fault in
    let cause = cause_of c.args.base.now c.args.tolerance c.make_durations.new.self (begun g (goal.at.returns-in_err-make_orders g c).In_ok-orders) c.in_ok-orders.orders.items c.in_ok-orders.ensures
    c.in_err-make_orders.field-0.0 fault in
    let p = err_from_is_err_and c.from_residual-in_err-make_orders.result c.from_residual-in_err-make_orders.ensures.1 in
    rw (p.1, p.2) (record { sound = tt; records = tt; events = tt; fault = cause })

pub returns : goal.returns
returns g c =
    let is = begun g (goal.at.returns g c).In_ok-orders in
    let orders = c.in_ok-orders.orders.items in
    let kept = rw c.deref.ensures.value at c.in_ok-make_orders.ensures.made in
    record {
      sound = c.durations_of.ensures.sound;
      records = record { orders = orders; sorted = c.in_ok-orders.ensures; made = made_of c.args.base.now c.args.tolerance c.make_durations.new.self is orders c.make_orders.new.self kept };
      events = ap (λ (made : Loosening). made.events) (kept.1 ∙ ap (λ made. with_more made kept.0) is);
      fault = tt;
    }
