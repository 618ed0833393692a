use Rattle.std.proofs.Common.{rules}
use Rattle.stn_exec.proofs.Scripts.{lines_of-none, next_line-here, next_line-skip, next_line-none}
use Rattle.stn_exec.proofs.heading.find_line.Goals as goal

pub returns-in-Some-clause-found : goal.returns-in-Some-clause-found
returns-in-Some-clause-found c = search (rules, next_line-here)

pub loop-left-preserved : goal.loop-left-preserved
loop-left-preserved c = search (rules, next_line-skip)

pub returns-clause-found : goal.returns-clause-found
returns-clause-found c = search (rules, next_line-none, lines_of-none)
