use Rattle.std.proofs.Common.{rules}
use Rattle.stn_pddl.proofs.Terms.{term-variable}
use Rattle.stn_pddl.proofs.atom.read_term.Goals as goal

pub returns-in-Some : goal.returns-in-Some
returns-in-Some g c = search (rules, term-variable)

pub returns-in-None : goal.returns-in-None
returns-in-None g c = search (rules, term-variable)
