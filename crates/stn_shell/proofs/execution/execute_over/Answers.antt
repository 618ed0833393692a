use Rattle.std.proofs.{lemmas.Grind.common_steps, Common.{arith}}
use Rattle.stn_shell.proofs.execution.execute_over.Goals as goal

pub returns-in-Ok : goal.returns-in-Ok
returns-in-Ok g c = grind arith

pub returns-in-Err-Words : goal.returns-in-Err-Words
returns-in-Err-Words g c =
    let refused = rw c.in-Err-Words.field-0-is at c.in-Err-Words.ensures.refused in
    grind (arith, common_steps)
