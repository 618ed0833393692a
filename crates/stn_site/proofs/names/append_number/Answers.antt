use Rattle.std.proofs.{Common.{arith, rules}, lemmas.Grind.common_steps}
use Rattle.stn_site.proofs.names.append_number.Goals as goal

pub returns-clause-short : goal.returns-clause-short
returns-clause-short g c = search rules

pub returns-clause-text : goal.returns-clause-text
returns-clause-text g c = grind (arith, common_steps)

pub returns-in_err-extend_from_slice-clause-behind : goal.returns-in_err-extend_from_slice-clause-behind
returns-in_err-extend_from_slice-clause-behind g c = grind (arith, common_steps)

pub returns-clause-behind : goal.returns-clause-behind
returns-clause-behind g c = grind (arith, common_steps)
