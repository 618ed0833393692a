use Rattle.std.proofs.Common.{None, refl}
use Rattle.stn_effects.specs.{Effects.{stopped, went}, Printing.device_of}
use Rattle.stn_device.specs.{Counted.failure_count, Partner.PartnerState}
use Rattle.stn_shell.specs.Outside.{outside}
use Rattle.stn_store.proofs.Lacks.{passed_on}
use Rattle.stn_shell.proofs.execution.send_to.Goals as goal

pub returns-in_err-plan : goal.returns-in_err-plan
returns-in_err-plan g c = rw (passed_on _ _ c.from_residual.ensures.1) (λ unread err. stopped _ (c.in_err-plan.ensures, refl, refl, refl) refl)

pub returns-in_err-peer : goal.returns-in_err-peer
returns-in_err-peer g c =
    rw (passed_on _ _ c.from_residual-in_err-peer.ensures.1) (λ unread err. went c.in_ok-plan.plan (outside (g.S.Store.entries c.args.store.now) unread (device_of g.W.Write.contents c.args.out.now) err) (c.in_ok-plan.ensures, refl, refl, refl)
    (stopped _ (refl, c.in_err-peer.ensures.failed) refl))

pub returns : goal.returns
returns g c =
    let after = c.send_to_partner.new.partner in
    let gone : PartnerState = record { unheard = None; told = None; ended = None; failed_reads = failure_count after.reader; failed_writes = failure_count after.writer } in
    let entries = g.S.Store.entries c.args.store.now in
    let out = device_of g.W.Write.contents c.args.out.now in
    λ unread err. went c.in_ok-plan.plan (outside entries unread out err) (c.in_ok-plan.ensures, refl, refl, refl)
    (went tt (outside entries unread out err) refl ((c.send_to_partner.new.copy.state, gone, rw (c.in_ok-peer.ensures.reads, c.in_ok-peer.ensures.writes) at c.send_to_partner.ensures.sent), refl, refl))
