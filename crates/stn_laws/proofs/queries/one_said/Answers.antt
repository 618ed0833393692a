use Rattle.std.proofs.Common.{rules}
use Rattle.stn_laws.proofs.queries.OneSaid.{one_text, one_named}
use Rattle.stn_command.proofs.OneRefusal.{one_refusal}
use Rattle.stn_laws.proofs.queries.one_said.Goals as goal

pub returns-clause-text : goal.returns-clause-text
returns-clause-text c = search (rules, one_text)

pub returns-clause-named : goal.returns-clause-named
returns-clause-named c = search (rules, one_named, one_text)

pub returns-clause-refusal : goal.returns-clause-refusal
returns-clause-refusal c = one_refusal
