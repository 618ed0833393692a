use Rattle.std.{proofs.Common.{◌≡◌, ◌++◌, length, All}, specs.List.flat_map}
use Rattle.stn_wire.proofs.lists.read_items.Given as goal

abbrev pub invariant-items : goal.invariant-items
invariant-items g l = record {
  text : l.bytes ≡ flat_map (g.T.Item.bytes_of l.layout) l.items.items ++ l.rest;
  each : All (g.T.Item.IsSpelled l.layout) l.items.items;
  many : length l.items.items ≡ l.counter;
}
