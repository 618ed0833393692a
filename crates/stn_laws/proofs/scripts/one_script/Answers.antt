use Rattle.std.proofs.Common.{rules}
use Rattle.stn_laws.proofs.scripts.OneOutput.{one_output, one_count}
use Rattle.stn_laws.proofs.scripts.one_script.Goals as goal

pub returns-clause-output : goal.returns-clause-output
returns-clause-output c = search (rules, one_output)

pub returns-clause-count : goal.returns-clause-count
returns-clause-count c = search (rules, one_count)
