use Rattle.stn_shell.proofs.process.run_process.Goals as goal

pub returns-in-Ok-clause-ended : goal.returns-in-Ok-clause-ended
returns-in-Ok-clause-ended g c = rw (c.in-Ok.is, c.from.ensures) c.execute.ensures.executed
