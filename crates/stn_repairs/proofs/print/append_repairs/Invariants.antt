use Rattle.std.{proofs.Common.{◌≡◌, ◌++◌, take}, specs.List.flat_map}
use Rattle.stn_repairs.specs.Text.{repair_line}
use Rattle.stn_repairs.proofs.print.append_repairs.Given as goal

abbrev pub invariant-loop-repair : goal.invariant-loop-repair
invariant-loop-repair g l = l.out.items ≡ l.initial.out.items ++ flat_map repair_line (take l.repair-index l.repairs)
