use Rattle.std.proofs.Common.{refl}
use Rattle.stn_device.specs.Partner.{partner_state}
use Rattle.stn_effects.specs.{Effects.{stopped, went}, Printing.device_of}
use Rattle.stn_exchanges.specs.Connections.{meeting}
use Rattle.stn_store.proofs.Lacks.{passed_on}
use Rattle.stn_exchanges.proofs.partners.end_session.Goals as goal

pub returns-in_err-print_session : goal.returns-in_err-print_session
returns-in_err-print_session g c = λ state. rw (passed_on _ _ c.from_residual.ensures.1) (stopped _ (c.in_err-print_session.ensures, refl, refl) refl)

pub returns : goal.returns
returns g c = λ state.
    went tt (meeting (partner_state g.R.Read.remaining g.W.Write.contents g.W.Finish.ended c.args.partner.now) state (device_of g.O.Write.contents c.print_session.new.out))
    (c.in_ok-print_session.ensures, refl, refl) (c.part_after.ensures, refl, refl, refl)
