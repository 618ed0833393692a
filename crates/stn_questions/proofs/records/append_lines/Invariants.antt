use Rattle.std.{proofs.Common.{◌≡◌, ◌++◌, take}, specs.List.flat_map}
use Rattle.stn_questions.specs.Records.{record_line}
use Rattle.stn_questions.proofs.records.append_lines.Given as goal

abbrev pub invariant-loop-id : goal.invariant-loop-id
invariant-loop-id g l = l.out.items ≡ l.initial.out.items ++ flat_map (record_line l.records) (take l.id-index l.ids)
