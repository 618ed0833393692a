use Rattle.stn_shell.proofs.process.program.Goals as goal

pub returns-in-Err : goal.returns-in-Err
returns-in-Err c = record { status = c.do_words.ensures.status }
