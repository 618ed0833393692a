use Rattle.std.proofs.Common.{◌≡◌, ◌+◌, sym, subst, arith}
use Rattle.stn_site.proofs.{Values.held_is, Windowing.{AreFirst, none_yet, one_more_window, all_windows}}
use Rattle.stn_replica.proofs.report.windows_of.Goals as goal

pub loop-number-init : goal.loop-number-init
loop-number-init g c = λ bounds exact. subst (AreFirst bounds 0) (sym c.new-windows.ensures.items) (none_yet bounds)

pub loop-number-preserved : goal.loop-number-preserved
loop-number-preserved g c = λ bounds exact.
    let is = held_is c.new.result c.unwrap-event.result c.loop-number.number c.unwrap-event.ensures c.new.ensures.value in
    subst (AreFirst bounds (c.loop-number.number + 1)) (sym c.in_ok-push.ensures.items)
    (one_more_window bounds c.loop-number.number c.unwrap-event.result c.loop-number.windows.items c.window.result (c.loop-number.invariant bounds exact) is (c.window.ensures bounds exact))

pub returns : goal.returns
returns g c = λ bounds exact.
    let all : c.loop-number.number ≡ c.args.matrix.now.events + 1 = omega (arith, c.events-number-end.ensures.value, c.loop-number.auto.number-end, c.loop-number-test.false) in
    all_windows bounds c.args.matrix.now.events c.loop-number.number c.loop-number.windows.items exact.possible (c.loop-number.invariant bounds exact) all
