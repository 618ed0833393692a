use Rattle.std.proofs.Common.{rules}
use Rattle.stn_line.proofs.Shapes.{joins, joined_all}
use Rattle.stn_line.proofs.commands.with_rows.Goals as goal

pub rows-preserved : goal.rows-preserved
rows-preserved c = search (rules, joins)

pub returns : goal.returns
returns c = search (rules, joined_all)
