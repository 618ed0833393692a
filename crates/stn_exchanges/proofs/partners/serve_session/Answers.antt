use Rattle.stn_exchanges.{specs.Joining.KeepsIn, proofs.Keepings.serves_seen}
use Rattle.stn_exchanges.proofs.partners.serve_session.Goals as goal

pub returns : goal.returns
returns g c =
    let is = c.serve_keeping-session.ensures in
    let source = (g.C.SiteCopy.held c.args.copy.now).source in
    rw c.answer_of.ensures (record {
      session = serves_seen g.S.Store.entries (KeepsIn g.S.Store.fails c.args.log.now source) is.served;
      source = is.source;
      site = is.site;
    })
