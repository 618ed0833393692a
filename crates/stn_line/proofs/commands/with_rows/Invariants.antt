use Rattle.clap.specs.Words.{app_of}
use Rattle.stn_line.proofs.Shapes.{Joined}
use Rattle.stn_line.proofs.commands.with_rows.Given as goal

abbrev pub invariant-rows : goal.invariant-rows
invariant-rows l = Joined (app_of l.initial.program) l.rows l.row-index l.program
