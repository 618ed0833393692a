use Rattle.std.proofs.Common.{rules, sym, ◌∙◌}
use Rattle.stn_conflict.proofs.Searches.{begun_of, found_all, found_none, still_search}
use Rattle.stn_conflict.proofs.relaxation.Search.go_on.Goals as goal

pub relax_until_met-requires-clause-begun : goal.relax_until_met-requires-clause-begun
relax_until_met-requires-clause-begun g c = begun_of c.requires.network c.requires.kept c.requires.search

pub returns : goal.returns
returns g c =
    let graph = c.args.graph.now in
    let old = c.args.self.now in
    let new = c.relax_until_met.new.self in
    let e = c.relax_until_met.ensures in
    let result = c.relax_until_met.result in
    let value = c.is_ok.ensures.value in
    record {
      search = still_search graph old new c.requires.search e.begun e.start e.lowers;
      possible = search (rules, found_all, found_none);
      distances = λ fits. (found_all graph old new c.requires.search e.begun e.start e.lowers result e.refused e.met (sym value ∙ fits)).1;
    }
