use Rattle.std.proofs.Common.{◌≡◌, ◌+◌}
use Rattle.stn_conflict.{specs.Relaxation.{IsBegun, IsRelaxedBut, Lowers}, proofs.Lowering.AreSwept}
use Rattle.stn_conflict.proofs.relaxation.Search.sweep.Given as goal

abbrev pub invariant-loop-index : goal.invariant-loop-index
invariant-loop-index g l = record {
  begun : IsBegun l.graph l.self;
  start : l.self.start ≡ l.fn.self.start;
  sweeps : l.self.sweeps ≡ l.fn.self.sweeps + 1;
  lowers : Lowers l.graph.bounds l.fn.self.start l.fn.self.far.items l.self.far.items;
  relaxed : IsRelaxedBut l.graph.whole l.graph.bounds l.self.far.items l.self.fresh.items;
  swept : AreSwept l.onward l.count l.index l.fn.self.far.items l.self.far.items l.self.fresh.items;
}
