use Rattle.stn_lift.proofs.fault.FailureFromBaseFault.from.Goals as goal

pub returns-in-TooManySteps : goal.returns-in-TooManySteps
returns-in-TooManySteps c = rw c.in-TooManySteps.is c.refused.ensures
