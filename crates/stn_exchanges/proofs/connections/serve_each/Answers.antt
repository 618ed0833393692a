use Rattle.std.proofs.Common.{◌≡◌, ◌<◌, ◌∙◌, arith}
use Rattle.stn_exchanges.{specs.Connections.{ServesSite, WithNext}, proofs.Served.{leads_more, leads_all, leads_out}}
use Rattle.stn_store.proofs.Lacks.{passed_on}
use Rattle.stn_exchanges.proofs.connections.serve_each.Goals as goal

pub returns-in_err-_session : goal.returns-in_err-_session
returns-in_err-_session g c =
    let i = c.sites.invariant in
    let is = c.in_err-_session.ensures in
    let few : c.sites.counter < c.args.count = omega (arith, c.sites-test.true) in
    rw (passed_on _ _ c.from_residual.ensures.1) (record {
      served = leads_out (WithNext (ServesSite g.S.Store.fails c.args.log.now (g.C.SiteCopy.held c.args.copy.now).source)) _ i.served few (rw i.source at is.served);
      source = is.source ∙ i.source;
      site = is.site ∙ i.site;
    })

pub sites-preserved : goal.sites-preserved
sites-preserved g c =
    let i = c.sites.invariant in
    let is = c.in_ok-_session.ensures in
    record {
      served = leads_more (WithNext (ServesSite g.S.Store.fails c.args.log.now (g.C.SiteCopy.held c.args.copy.now).source)) _ _ i.served (rw i.source at is.served);
      source = is.source ∙ i.source;
      site = is.site ∙ i.site;
    }

pub returns : goal.returns
returns g c =
    let i = c.sites.invariant in
    let all : c.sites.counter ≡ c.args.count = omega (arith, c.sites.auto.counter-end, c.sites-test.false) in
    record {
      served = leads_all (WithNext (ServesSite g.S.Store.fails c.args.log.now (g.C.SiteCopy.held c.args.copy.now).source)) _ i.served all;
      source = i.source;
      site = i.site;
    }
