use Rattle.stn_loosen.proofs.Robustness.{promise_iff}
use Rattle.stn_laws.proofs.loosened.promises_are_schedules_of_starts.Goals as goal

pub returns : goal.returns
returns c = λ source slack sound is promised. promise_iff source sound slack is promised
