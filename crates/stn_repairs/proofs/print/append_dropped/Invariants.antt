use Rattle.std.{proofs.Common.{◌≡◌, ◌++◌, codes, take}, specs.List.flat_map}
use Rattle.stn_repairs.specs.Text.{listed_id}
use Rattle.stn_repairs.proofs.print.append_dropped.Given as goal

abbrev pub invariant-loop-id : goal.invariant-loop-id
invariant-loop-id g l = l.out.items ≡ l.fn.out.items ++ (codes "drop" ++ flat_map listed_id (take l.id-index l.ids))
