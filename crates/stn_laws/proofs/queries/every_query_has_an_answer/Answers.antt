use Rattle.std.proofs.Common.{rules}
use Rattle.stn_laws.proofs.queries.SomeSaid.{some_said, some_refusal, some_named}
use Rattle.stn_laws.proofs.queries.every_query_has_an_answer.Goals as goal

pub returns-clause-text : goal.returns-clause-text
returns-clause-text c = search (rules, some_said)

pub returns-clause-refusal : goal.returns-clause-refusal
returns-clause-refusal c = search (rules, some_refusal)

pub returns-clause-named : goal.returns-clause-named
returns-clause-named c = search (rules, some_named)
