use Rattle.std.proofs.{lemmas.{Grind.common_steps, Result.err_from_is_err_and}, Common.{arith, rules, Err, IfSome, subst}}
use Rattle.stn_wire.{specs.{Front.{IsFront, unfinished, answered_front}, Reading.IsWanted}, proofs.Feeding.{opening_err, filled_err, filled_whole, filled_none}}
use Rattle.stn_wire.proofs.feeder.take_frame.Goals as goal

pub returns-in_err-length : goal.returns-in_err-length
returns-in_err-length g c = search (rules, opening_err)

pub returns-in_err-frame : goal.returns-in_err-frame
returns-in_err-frame g c =
    let p = err_from_is_err_and c.from_residual-in_err-frame.result c.from_residual-in_err-frame.ensures.1 in
    let wants = subst (λ l. IsWanted l c.in_ok-length.length) c.deref.ensures.value c.in_ok-length.ensures in
    let fault = c.in_err-frame.field-0.0 in
    let found = subst (λ l. IfSome (answered_front {A = g.row.A.Denot} (Err fault)) (IsFront l)) c.deref-2.ensures.value c.in_err-frame.ensures in
    rw (p.1, p.2) (filled_err c.args.held.now.items c.args.piece.now c.requires c.in_ok-opening.opening c.in_ok-opening.ensures.taken c.fill.new.held.items c.in_ok-opening.ensures.filled
    c.in_ok-length.length wants c.in_ok-used.field-0 c.in_ok-used.ensures.taken c.fill-2.new.held.items c.in_ok-used.ensures.filled g.row.A.Denot fault found)

pub returns-in-Some : goal.returns-in-Some
returns-in-Some g c = grind (arith, common_steps, filled_whole)

pub returns-in-None : goal.returns-in-None
returns-in-None g c =
    let wants = subst (λ l. IsWanted l c.in_ok-length.length) c.deref.ensures.value c.in_ok-length.ensures in
    let read = rw c.in-None.is at c.in_ok-frame.ensures in
    let found = subst (λ l. IsFront l unfinished) c.deref-2.ensures.value read in
    filled_none c.args.held.now.items c.args.piece.now c.requires c.in_ok-opening.opening c.in_ok-opening.ensures.taken c.fill.new.held.items c.in_ok-opening.ensures.filled
    c.in_ok-length.length wants c.in_ok-used.field-0 c.in_ok-used.ensures.taken c.fill-2.new.held.items c.in_ok-used.ensures.filled g.row.A.Denot found

pub returns-in_err-opening : goal.returns-in_err-opening
returns-in_err-opening g c = grind (arith, common_steps)

pub returns-in_err-used : goal.returns-in_err-used
returns-in_err-used g c = grind (arith, common_steps)
