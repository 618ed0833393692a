use Rattle.std.proofs.{Common.arith, lemmas.Grind.{common_steps, elements}}
use Rattle.stn_conflict.proofs.outgoing.Rows.add.Goals as goal

pub add_next-requires-clause-named : goal.add_next-requires-clause-named
add_next-requires-clause-named g c = grind (arith, common_steps)

pub add_next-requires-in-loop-place-clause-named : goal.add_next-requires-in-loop-place-clause-named
add_next-requires-in-loop-place-clause-named g c = grind (arith, common_steps)

pub bound_in-bound-requires : goal.bound_in-bound-requires
bound_in-bound-requires g c = grind (arith, common_steps)

pub loop-place-preserved : goal.loop-place-preserved
loop-place-preserved g c = grind (arith, elements)

pub returns-clause-all : goal.returns-clause-all
returns-clause-all g c = grind (arith, common_steps)

pub returns-in_err-add_next-2-clause-rows : goal.returns-in_err-add_next-2-clause-rows
returns-in_err-add_next-2-clause-rows g c = grind (arith, elements)

pub returns-in_err-add_next-clause-rows : goal.returns-in_err-add_next-clause-rows
returns-in_err-add_next-clause-rows g c = grind (arith, common_steps)
