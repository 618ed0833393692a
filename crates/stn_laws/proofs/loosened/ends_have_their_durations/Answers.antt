use Rattle.std.proofs.{Common.◌≡◌, lemmas.List.Elements.All-contains}
use Rattle.stn_net.specs.Difference.{Difference}
use Rattle.stn_loosen.{specs.{Loosened.{bounds_with, loose_durations}, Promise.setting_of}, proofs.Robustness.{apart, records_robust, records_promise}}
use Rattle.stn_laws.proofs.loosened.Runs.{run_possible, end_window}
use Rattle.stn_laws.proofs.loosened.ends_have_their_durations.Goals as goal

pub returns : goal.returns
returns c = λ source slack records run sound is are promise runs duration has start started new time.
    let robust = records_robust source sound slack is records are in
    let possible = run_possible (loose_durations slack source) (bounds_with source records) robust ((records_promise source sound slack is records are).0 promise) run runs in
    let parts = apart source sound slack is in
    let own = All-contains (λ (d : Difference). setting_of (loose_durations slack source) d.to ≡ d) (loose_durations slack source) duration parts.own has in
    end_window (loose_durations slack source) (bounds_with source records) robust run possible duration has own new start started time
