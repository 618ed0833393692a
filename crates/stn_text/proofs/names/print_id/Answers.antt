use Rattle.std.proofs.{Common.rules, lemmas.List.append_assoc}
use Rattle.stn_text.proofs.names.print_id.Goals as goal

pub returns-clause-printed : goal.returns-clause-printed
returns-clause-printed g c = search (rules, append_assoc)
