use Rattle.std.proofs.Common.{refl, inr}
use Rattle.stn_effects.specs.{Effects.{stopped, went}, Printing.device_of}
use Rattle.stn_shell.specs.Outside.{outside}
use Rattle.stn_store.proofs.Lacks.{passed_on}
use Rattle.stn_shell.proofs.execution.serve_at.Goals as goal

pub returns-in_err-plan : goal.returns-in_err-plan
returns-in_err-plan g c = rw (passed_on _ _ c.from_residual.ensures.1) (λ unread err. stopped _ (c.in_err-plan.ensures, refl, refl, refl) refl)

pub returns-in_err-can_save : goal.returns-in_err-can_save
returns-in_err-can_save g c =
    rw (passed_on _ _ c.from_residual-in_err-can_save.ensures.1) (λ unread err. went c.in_ok-plan.plan (outside (g.S.Store.entries c.args.store.now) unread (device_of g.W.Write.contents c.args.out.now) err) (c.in_ok-plan.ensures, refl, refl, refl)
    (stopped _ ((refl, inr c.in_err-can_save.ensures.failed), refl, refl, refl) refl))

pub returns-in_err-listener : goal.returns-in_err-listener
returns-in_err-listener g c =
    let entries = g.S.Store.entries c.args.store.now in
    let out = device_of g.W.Write.contents c.args.out.now in
    rw (passed_on _ _ c.from_residual-in_err-listener.ensures.1) (λ unread err. went c.in_ok-plan.plan (outside entries unread out err) (c.in_ok-plan.ensures, refl, refl, refl) (went tt (outside entries unread out err) ((refl, tt), refl, refl, refl)
    (stopped _ (c.in_err-listener.ensures entries unread err) refl)))

pub returns : goal.returns
returns g c =
    let entries = g.S.Store.entries c.args.store.now in
    let out = device_of g.W.Write.contents c.args.out.now in
    λ unread err. went c.in_ok-plan.plan (outside entries unread out err) (c.in_ok-plan.ensures, refl, refl, refl) (went tt (outside entries unread out err) ((refl, tt), refl, refl, refl)
    (went tt (outside entries unread (device_of g.W.Write.contents c.listen.new.out) err) (c.in_ok-listener.ensures entries unread err)
    ((c.serve_each.new.copy.state, c.serve_each.ensures.served), refl, refl)))
