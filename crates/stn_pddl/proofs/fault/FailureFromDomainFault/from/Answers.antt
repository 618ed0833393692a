use Rattle.stn_pddl.proofs.fault.FailureFromDomainFault.from.Goals as goal

pub returns-in-Twice : goal.returns-in-Twice
returns-in-Twice c = rw c.in-Twice.is c.refused_at-in-Twice.ensures
