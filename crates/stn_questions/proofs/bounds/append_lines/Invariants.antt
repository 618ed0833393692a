use Rattle.std.{proofs.Common.{◌≡◌, ◌++◌}, specs.List.{flat_map, range_with_len}}
use Rattle.stn_questions.specs.Bounds.{listed_line}
use Rattle.stn_questions.proofs.bounds.append_lines.Given as goal

abbrev pub invariant-loop-place : goal.invariant-loop-place
invariant-loop-place g l = l.out.items ≡ l.initial.out.items ++ flat_map (listed_line l.base l.ids l.others) (range_with_len 0 l.place)
