use Rattle.std.proofs.Common.{refl, ◌∙◌}
use Rattle.stn_device.specs.Partner.{partner_state}
use Rattle.stn_effects.{specs.{Effects.{stopped, went}, Printing.device_of}, proofs.Endings.wrote}
use Rattle.stn_exchanges.specs.{Connections.meeting, Joining.shared}
use Rattle.stn_store.proofs.Lacks.{passed_on}
use Rattle.stn_exchanges.proofs.partners.send_to_partner.Goals as goal

pub returns-in_err-ask : goal.returns-in_err-ask
returns-in_err-ask g c =
    rw (passed_on _ _ c.from_residual.ensures.1) (record {
      sent = stopped _ (c.in_err-ask.ensures (g.S.Store.entries c.args.store.now) (device_of g.O.Write.contents c.args.out.now)) refl;
      source = refl;
      site = refl;
    })

pub returns-in_err-text : goal.returns-in_err-text
returns-in_err-text g c =
    let is = c.in_err-text.ensures in
    rw (passed_on _ _ c.from_residual-in_err-text.ensures.1) (record {
      sent = went tt (meeting (partner_state g.R.Read.remaining g.W.Write.contents g.W.Finish.ended c.ask.new.partner) (shared (g.C.SiteCopy.held c.args.copy.now).state (g.S.Store.entries c.args.store.now)) (device_of g.O.Write.contents c.args.out.now))
          (c.in_ok-ask.ensures (g.S.Store.entries c.args.store.now) (device_of g.O.Write.contents c.args.out.now)) (stopped _ (is.received (g.S.Store.entries c.args.store.now), refl) refl);
      source = is.source;
      site = is.site;
    })

pub returns-in_err-save_join : goal.returns-in_err-save_join
returns-in_err-save_join g c =
    let heard = c.in_ok-text.ensures in
    let is = c.in_err-save_join.ensures in
    rw (passed_on _ _ c.from_residual-in_err-save_join.ensures.1) (record {
      sent = went tt (meeting (partner_state g.R.Read.remaining g.W.Write.contents g.W.Finish.ended c.ask.new.partner) (shared (g.C.SiteCopy.held c.args.copy.now).state (g.S.Store.entries c.args.store.now)) (device_of g.O.Write.contents c.args.out.now))
          (c.in_ok-ask.ensures (g.S.Store.entries c.args.store.now) (device_of g.O.Write.contents c.args.out.now)) (went c.in_ok-text.text.items
          (meeting (partner_state g.R.Read.remaining g.W.Write.contents g.W.Finish.ended c.hear.new.partner) (shared (g.C.SiteCopy.held c.hear.new.copy).state (g.S.Store.entries c.args.store.now)) (device_of g.O.Write.contents c.args.out.now))
          (heard.received (g.S.Store.entries c.args.store.now), refl) (stopped _ (rw heard.source at is.saved, refl, refl) refl));
      source = is.source ∙ heard.source;
      site = is.site ∙ heard.site;
    })

pub returns : goal.returns
returns g c =
    let heard = c.in_ok-text.ensures in
    let is = c.in_ok-save_join.ensures in
    record {
      sent = went tt (meeting (partner_state g.R.Read.remaining g.W.Write.contents g.W.Finish.ended c.ask.new.partner) (shared (g.C.SiteCopy.held c.args.copy.now).state (g.S.Store.entries c.args.store.now)) (device_of g.O.Write.contents c.args.out.now))
          (c.in_ok-ask.ensures (g.S.Store.entries c.args.store.now) (device_of g.O.Write.contents c.args.out.now)) (went c.in_ok-text.text.items
          (meeting (partner_state g.R.Read.remaining g.W.Write.contents g.W.Finish.ended c.hear.new.partner) (shared (g.C.SiteCopy.held c.hear.new.copy).state (g.S.Store.entries c.args.store.now)) (device_of g.O.Write.contents c.args.out.now))
          (heard.received (g.S.Store.entries c.args.store.now), refl) (went tt
          (meeting (partner_state g.R.Read.remaining g.W.Write.contents g.W.Finish.ended c.hear.new.partner) (shared (g.C.SiteCopy.held c.save_join.new.copy).state (g.S.Store.entries c.save_join.new.store)) (device_of g.O.Write.contents c.args.out.now))
          (rw heard.source at is.saved, refl, refl)
          (wrote c.print.result _ _ _ (rw c.deref.ensures.value at c.print.ensures.printed) (rw c.deref.ensures.value at c.print.ensures.failed), refl, refl)));
      source = is.source ∙ heard.source;
      site = is.site ∙ heard.site;
    }
