use Rattle.std.proofs.{Common.arith, lemmas.Grind.common_steps}
use Rattle.stn_wire.proofs.source.append_source.Goals as goal

pub append_measured-requires : goal.append_measured-requires
append_measured-requires g c = grind (arith, common_steps)

pub append_measured-requires-in-Files : goal.append_measured-requires-in-Files
append_measured-requires-in-Files g c = grind (arith, common_steps)

pub returns-in_ok-append_measured-in-Files-clause-appended : goal.returns-in_ok-append_measured-in-Files-clause-appended
returns-in_ok-append_measured-in-Files-clause-appended g c = grind (arith, common_steps)

pub returns-in_ok-append_measured-in-Files-clause-said : goal.returns-in_ok-append_measured-in-Files-clause-said
returns-in_ok-append_measured-in-Files-clause-said g c = grind (arith, common_steps)

pub returns-in_ok-push-in-Bare-clause-appended : goal.returns-in_ok-push-in-Bare-clause-appended
returns-in_ok-push-in-Bare-clause-appended g c = grind (arith, common_steps)
