use Rattle.std.{proofs.Common.{◌≡◌, ◌++◌, take}, specs.List.flat_map}
use Rattle.stn_command.specs.Guarding.{added_line}
use Rattle.stn_command.proofs.guarding.append_added.Given as goal

abbrev pub invariant-loop-id : goal.invariant-loop-id
invariant-loop-id g l = l.out.items ≡ l.initial.out.items ++ flat_map added_line (take l.id-index l.ids)
