use Rattle.std.{proofs.Common.{◌≡◌, ◌++◌, take, All}, specs.List.flat_map}
use Rattle.stn_wire.specs.declared.layout.Layout.TheVariants.{New}
use Rattle.stn_wire.proofs.lists.append_items.Given as goal

abbrev pub invariant-loop-item : goal.invariant-loop-item
invariant-loop-item g l = record {
  written : l.out.items ≡ l.fn.out.items ++ flat_map (g.T.Item.bytes_of New) (take l.item-index l.items);
  each : All (g.T.Item.IsSpelled New) (take l.item-index l.items);
}
