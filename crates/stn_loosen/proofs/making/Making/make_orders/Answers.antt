use Rattle.std.proofs.{Common.{refl, subst}, lemmas.{Result.err_from_is_err_and, List.take_all}}
use Rattle.stn_loosen.{specs.Making.AreMadeBehind, proofs.Made.{none_made, possible_next, made_next, order_refused}}
use Rattle.stn_loosen.proofs.making.Making.make_orders.Goals as goal

pub loop-order-init : goal.loop-order-init
loop-order-init g c = none_made c.args.self.now

pub make_order-requires-clause-possible : goal.make_order-requires-clause-possible
make_order-requires-clause-possible g c =
    let sofar = c.loop-order in
    possible_next (λ l. l) (λ _ _. refl) c.args.self.now sofar.self c.args.orders.now sofar.order-index sofar.invariant c.order-item.result c.loop-order-test.true c.order-item.is c.requires.possible

pub returns-in_err-make_order-clause-fault : goal.returns-in_err-make_order-clause-fault
returns-in_err-make_order-clause-fault g c =
    let sofar = c.loop-order in
    let returned = err_from_is_err_and c.from_residual.result c.from_residual.ensures.1 in
    rw (returned.1, returned.2)
    (order_refused c.args.self.now sofar.self c.args.orders.now sofar.order-index sofar.invariant c.order-item.result c.loop-order-test.true c.order-item.is c.in_err-make_order.field-0.0
    c.in_err-make_order.ensures.fault)

pub loop-order-preserved : goal.loop-order-preserved
loop-order-preserved g c =
    let sofar = c.loop-order in
    made_next (λ l. l) (λ _ _. refl) c.args.self.now sofar.self c.args.orders.now sofar.order-index sofar.invariant c.order-item.result c.loop-order-test.true c.order-item.is c.make_order.new.self
    c.in_ok-make_order.ensures.made

pub returns : goal.returns
returns g c =
    record { made = subst (λ orders. AreMadeBehind c.args.self.now orders c.loop-order.self) (take_all _ c.args.orders.now c.loop-order-test.false) c.loop-order.invariant; fault = tt }
