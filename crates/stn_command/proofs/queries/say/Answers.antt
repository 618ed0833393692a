use Rattle.stn_command.proofs.queries.say.Goals as goal

pub returns-in-Repairs : goal.returns-in-Repairs
returns-in-Repairs g c = rw c.in-Repairs.is c.repairs.ensures
