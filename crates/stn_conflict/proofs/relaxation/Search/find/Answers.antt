use Rattle.std.proofs.Common.{refl}
use Rattle.stn_conflict.proofs.relaxation.Search.find.Goals as goal

pub settle-requires : goal.settle-requires
settle-requires g c = record {
  network = c.requires.network;
  kept = c.requires.kept;
  search = record {
    tables = rw c.requires.tables.far at c.begin.ensures.tables;
    from = refl;
    estimates = rw c.begin.ensures.start (c.begin.ensures.estimates c.args.graph.now.bounds c.args.graph.now.events c.requires.tables.far c.requires.network);
  };
}
