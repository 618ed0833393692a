use Rattle.std.{proofs.Common.{◌≡◌, ◌++◌, length, map}, specs.List.flat_map}
use Rattle.stn_text.specs.Lines.{lines_of}
use Rattle.stn_command.specs.NamedLines.{line_with_names}
use Rattle.stn_command.proofs.named_lines.with_names.Given as goal

abbrev pub invariant-loop-rest : goal.invariant-loop-rest
invariant-loop-rest g l =
    flat_map (line_with_names (map (λ name. name.items) l.names) l.plan.state) (lines_of l.answer)
    ≡ l.text.items ++ flat_map (line_with_names (map (λ name. name.items) l.names) l.plan.state) (lines_of l.rest)

abbrev pub decreases-loop-rest : goal.decreases-loop-rest
decreases-loop-rest g l = length l.rest
