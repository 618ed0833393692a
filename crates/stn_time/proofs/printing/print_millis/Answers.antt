use Rattle.stn_time.proofs.Prints.{spells-printed}
use Rattle.stn_time.proofs.printing.print_millis.Goals as goal

pub returns-clause-spells : goal.returns-clause-spells
returns-clause-spells g c = spells-printed c.args.millis
