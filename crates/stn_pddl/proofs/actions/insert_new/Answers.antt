use Rattle.std.proofs.Common.{rules}
use Rattle.indexmap.proofs.CallerLemmas.{insert_entry-new}
use Rattle.stn_pddl.proofs.actions.insert_new.Goals as goal

pub returns-clause-added : goal.returns-clause-added
returns-clause-added g c = search (rules, insert_entry-new)
