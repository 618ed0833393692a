use Rattle.std.proofs.Common.{refl}
use Rattle.stn_effects.specs.{Effects.{stopped, went}, Printing.device_of}
use Rattle.stn_shell.{specs.Outside.outside, proofs.Turns.tells_some}
use Rattle.stn_store.proofs.Lacks.{passed_on}
use Rattle.stn_shell.proofs.execution.tell_answer.Goals as goal

pub returns-in_err-text : goal.returns-in_err-text
returns-in_err-text g c =
    let told = device_of g.E.Write.contents c.tell_made.new.err in
    rw (passed_on _ _ c.from_residual.ensures.1) (λ unread. went tt (outside (g.S.Store.entries c.args.store.now) unread (device_of g.W.Write.contents c.args.out.now) told) ((tells_some _ _ _ _ c.waiting_of.ensures c.tell_made.ensures, refl, refl, refl), refl)
    (stopped _ (c.in_err-text.ensures, refl, refl, refl) refl))

pub returns-in_err-print : goal.returns-in_err-print
returns-in_err-print g c =
    let told = device_of g.E.Write.contents c.tell_made.new.err in
    let failed = rw c.deref.ensures.value at c.in_err-print.ensures.failed in
    rw (passed_on _ _ c.from_residual-in_err-print.ensures.1) (λ unread. went tt (outside (g.S.Store.entries c.args.store.now) unread (device_of g.W.Write.contents c.args.out.now) told) ((tells_some _ _ _ _ c.waiting_of.ensures c.tell_made.ensures, refl, refl, refl), refl)
    (went c.in_ok-text.text.items (outside (g.S.Store.entries c.answer_with.new.store) unread (device_of g.W.Write.contents c.args.out.now) told) (c.in_ok-text.ensures, refl, refl, refl)
    (stopped _ (failed, refl, refl, refl) refl)))

pub returns : goal.returns
returns g c =
    let told = device_of g.E.Write.contents c.tell_made.new.err in
    let printed = rw c.deref.ensures.value at c.in_ok-print.ensures.printed in
    λ unread. went tt (outside (g.S.Store.entries c.args.store.now) unread (device_of g.W.Write.contents c.args.out.now) told) ((tells_some _ _ _ _ c.waiting_of.ensures c.tell_made.ensures, refl, refl, refl), refl)
    (went c.in_ok-text.text.items (outside (g.S.Store.entries c.answer_with.new.store) unread (device_of g.W.Write.contents c.args.out.now) told) (c.in_ok-text.ensures, refl, refl, refl)
    (went tt (outside (g.S.Store.entries c.answer_with.new.store) unread (device_of g.W.Write.contents c.print.new.out) told) (printed, refl, refl, refl)
    ((c.tell_hints.ensures, refl, refl, refl), refl)))
