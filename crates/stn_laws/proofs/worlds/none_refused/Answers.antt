use Rattle.std.proofs.Common.{rules}
use Rattle.stn_laws.proofs.worlds.{EachRun.{delivery_accepted, merge_accepted}, Lawful.lawful_run}
use Rattle.stn_laws.proofs.worlds.none_refused.Goals as goal

pub returns-clause-delivery : goal.returns-clause-delivery
returns-clause-delivery c = search (rules, delivery_accepted, lawful_run)

pub returns-clause-merge : goal.returns-clause-merge
returns-clause-merge c = search (rules, merge_accepted, lawful_run)
