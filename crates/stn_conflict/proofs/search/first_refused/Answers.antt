use Rattle.std.proofs.{Common.{◌≡◌, ◌+◌, ◌∙◌, length, take, refl, sym, arith}, lemmas.Bool.false≢true}
use Rattle.stn_conflict.proofs.Relaxing.{network_known, network_before}
use Rattle.stn_conflict.proofs.search.first_refused.Goals as goal

pub settle-requires : goal.settle-requires
settle-requires g c =
    let graph = c.args.graph.now in
    record {
      kept = c.requires.kept;
      network = network_known c.requires.begins c.requires.named;
      search = record {
        tables = rw c.requires.tables.far at c.begin.ensures.tables;
        from = refl;
        estimates = rw c.begin.ensures.start (c.begin.ensures.estimates graph.bounds graph.events c.requires.tables.far (network_known c.requires.begins c.requires.named));
      };
    }

pub first_between-requires : goal.first_between-requires
first_between-requires g c =
    let bounds = c.args.graph.now.bounds in
    let long : length c.begin.new.self.far.items ≡ c.args.graph.now.events + 1 = c.begin.ensures.tables.far ∙ c.requires.tables.far in
    let copied : c.in_ok-known.known.items ≡ c.begin.new.self.far.items = c.in_ok-known.ensures.items ∙ c.deref.ensures.value in
    let start = c.settle.ensures.search.from ∙ c.begin.ensures.start in
    rw (c.deref_mut.ensures.value, copied) (record {
      kept = c.requires.kept;
      begins = c.requires.begins;
      named = c.requires.named;
      tables = c.settle.ensures.search.tables;
      known = rw start (c.begin.ensures.estimates (take c.args.graph.now.events bounds) c.args.graph.now.events c.requires.tables.far
          (network_before bounds (omega arith) c.requires.begins c.requires.named));
      long = long;
      none = λ has. false≢true (sym c.if-settle.false ∙ c.settle.ensures.possible.1 has);
    })

pub returns-then-settle-clause-found : goal.returns-then-settle-clause-found
returns-then-settle-clause-found g c = c.settle.ensures.possible.0 c.if-settle.true
