use Rattle.std.proofs.Common.{refl, ◌∙◌}
use Rattle.stn_device.specs.Partner.{partner_state}
use Rattle.stn_effects.specs.{Effects.{stopped, went}, Printing.device_of}
use Rattle.stn_exchanges.specs.{Connections.meeting, Joining.shared}
use Rattle.stn_store.proofs.Lacks.{passed_on}
use Rattle.stn_exchanges.proofs.partners.serve_partner.Goals as goal

pub returns-in_err-take_log : goal.returns-in_err-take_log
returns-in_err-take_log g c =
    let is = c.in_err-take_log.ensures in
    rw (passed_on _ _ c.from_residual.ensures.1) (record { served = stopped _ (is.taken, refl, refl) refl; source = is.source; site = is.site })

pub returns-in_err-session : goal.returns-in_err-session
returns-in_err-session g c =
    let took = c.in_ok-take_log.ensures in
    let is = c.in_err-session.ensures in
    rw (passed_on _ _ c.from_residual-in_err-session.ensures.1) (record {
      served = went tt (meeting (partner_state g.R.Read.remaining g.W.Write.contents g.W.Finish.ended c.args.partner.now) (shared (g.C.SiteCopy.held c.take_log.new.copy).state (g.S.Store.entries c.args.store.now)) (device_of g.O.Write.contents c.args.out.now)) (took.taken, refl, refl)
          (stopped _ (rw took.source at is.session, refl) refl);
      source = is.source ∙ took.source;
      site = is.site ∙ took.site;
    })

pub returns-in_err-save_join : goal.returns-in_err-save_join
returns-in_err-save_join g c =
    let took = c.in_ok-take_log.ensures in
    let session = c.in_ok-session.ensures in
    let is = c.in_err-save_join.ensures in
    rw (passed_on _ _ c.from_residual-in_err-save_join.ensures.1) (record {
      served = went tt (meeting (partner_state g.R.Read.remaining g.W.Write.contents g.W.Finish.ended c.args.partner.now) (shared (g.C.SiteCopy.held c.take_log.new.copy).state (g.S.Store.entries c.args.store.now)) (device_of g.O.Write.contents c.args.out.now)) (took.taken, refl, refl)
          (went c.in_ok-session.session (meeting (partner_state g.R.Read.remaining g.W.Write.contents g.W.Finish.ended c.serve_session.new.partner) (shared (g.C.SiteCopy.held c.serve_session.new.copy).state (g.S.Store.entries c.serve_session.new.store)) (device_of g.O.Write.contents c.args.out.now))
          (rw took.source at session.session, refl) (stopped _ (rw (session.source ∙ took.source) at is.saved, refl, refl) refl));
      source = is.source ∙ session.source ∙ took.source;
      site = is.site ∙ session.site ∙ took.site;
    })

pub returns : goal.returns
returns g c =
    let took = c.in_ok-take_log.ensures in
    let session = c.in_ok-session.ensures in
    let is = c.in_ok-save_join.ensures in
    record {
      served = went tt (meeting (partner_state g.R.Read.remaining g.W.Write.contents g.W.Finish.ended c.args.partner.now) (shared (g.C.SiteCopy.held c.take_log.new.copy).state (g.S.Store.entries c.args.store.now)) (device_of g.O.Write.contents c.args.out.now)) (took.taken, refl, refl)
          (went c.in_ok-session.session (meeting (partner_state g.R.Read.remaining g.W.Write.contents g.W.Finish.ended c.serve_session.new.partner) (shared (g.C.SiteCopy.held c.serve_session.new.copy).state (g.S.Store.entries c.serve_session.new.store)) (device_of g.O.Write.contents c.args.out.now))
          (rw took.source at session.session, refl) (went tt (meeting (partner_state g.R.Read.remaining g.W.Write.contents g.W.Finish.ended c.serve_session.new.partner) (shared (g.C.SiteCopy.held c.save_join.new.copy).state (g.S.Store.entries c.save_join.new.store)) (device_of g.O.Write.contents c.args.out.now))
          (rw (session.source ∙ took.source) at is.saved, refl, refl) (c.end_session.ensures _)));
      source = is.source ∙ session.source ∙ took.source;
      site = is.site ∙ session.site ∙ took.site;
    }
