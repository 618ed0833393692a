use Rattle.stn_session.proofs.session.serve.Goals as goal

pub returns-in-Err-Serve-clause-served : goal.returns-in-Err-Serve-clause-served
returns-in-Err-Serve-clause-served g c = rw c.in-Err-Serve.field-0-is at c.in-Err-Serve.ensures.served
