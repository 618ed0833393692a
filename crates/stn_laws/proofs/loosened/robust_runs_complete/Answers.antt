use Rattle.stn_loosen.{specs.Loosened.{bounds_with, loose_durations}, proofs.Robustness.{records_robust, records_promise}}
use Rattle.stn_laws.proofs.loosened.Runs.{run_possible}
use Rattle.stn_laws.proofs.loosened.robust_runs_complete.Goals as goal

pub returns : goal.returns
returns c = λ source slack records run sound is are promise runs.
    run_possible (loose_durations slack source) (bounds_with source records) (records_robust source sound slack is records are) ((records_promise source sound slack is records are).0 promise) run runs
