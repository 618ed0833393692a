use Rattle.std.proofs.Common.{rules}
use Rattle.stn_lift.proofs.plan.LineFacts.{no_lines, lines_cut}
use Rattle.stn_lift.proofs.plan.lines.Lines.next_line.Goals as goal

pub returns-then-is_empty : goal.returns-then-is_empty
returns-then-is_empty c = search (rules, no_lines)

pub returns : goal.returns
returns c = rw (← c.self.view_is) (lines_cut c.self.inside.number c.self.inside.rest.now _ _ c.first_line.ensures.lines)
