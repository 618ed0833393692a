use Rattle.std.{proofs.Common.{◌≡◌, ◌++◌, decimal}, specs.List.{flat_map, range_with_len}}
use Rattle.stn_site.specs.Lines.{line}
use Rattle.stn_questions.proofs.steps.append_numbers.Given as goal

abbrev pub invariant-loop-before : goal.invariant-loop-before
invariant-loop-before g l = l.out.items ≡ l.initial.out.items ++ flat_map (λ number. line (decimal number)) (range_with_len 1 l.before)
