use Rattle.std.proofs.Common.{◌≡◌}
use Rattle.stn_effects.specs.Printing.{device_of}
use Rattle.stn_exchanges.{specs.{Connections.{meeting, ServesSite, WithNext}, Joining.shared}, proofs.Served.LeadsOn}
use Rattle.stn_exchanges.proofs.connections.serve_each.Given as goal

abbrev pub invariant-sites : goal.invariant-sites
invariant-sites g l = record {
  served : LeadsOn (WithNext (ServesSite g.S.Store.fails l.fn.log (g.C.SiteCopy.held l.fn.copy).source)) l.counter
      (meeting (g.L.Callers.callers l.fn.callers) (shared (g.C.SiteCopy.held l.fn.copy).state (g.S.Store.entries l.fn.store)) (device_of g.W.Write.contents l.fn.out))
      (meeting (g.L.Callers.callers l.callers) (shared (g.C.SiteCopy.held l.copy).state (g.S.Store.entries l.store)) (device_of g.W.Write.contents l.out));
  source : (g.C.SiteCopy.held l.copy).source ≡ (g.C.SiteCopy.held l.fn.copy).source;
  site : (g.C.SiteCopy.held l.copy).site ≡ (g.C.SiteCopy.held l.fn.copy).site;
}
