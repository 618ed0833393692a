use Rattle.std.{proofs.Common.{◌≡◌, ◌++◌, take}, specs.List.flat_map}
use Rattle.stn_questions.specs.Ready.{ready_line}
use Rattle.stn_questions.proofs.ready.append_lines.Given as goal

abbrev pub invariant-loop-one : goal.invariant-loop-one
invariant-loop-one g l = l.out.items ≡ l.initial.out.items ++ flat_map ready_line (take l.one-index l.ready)
